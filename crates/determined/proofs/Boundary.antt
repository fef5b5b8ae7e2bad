-- The claims of the functions exported to C allow one outcome: each is a record of equations. Assumes nothing.
use mathlib.Core.List.{[]}
use Rattle.determined.specs.Boundary.{BoundaryDetermined}
use Rattle.determined.proofs.Laws.{only}

pub boundary-determined : BoundaryDetermined
boundary-determined = record {
  replies = λ a. only _ (λ x c k. record { answer = c.answer k; first = c.first k; second = c.second k; record_bytes = c.record_bytes k; page = c.page k });
  replies_numbers = λ a. only _ (λ x c k. record { numbers = record { answer = c.answer k; first = c.first k; second = c.second k }; record_bytes = c.record_bytes k; page = c.page k });
  replies_lent = λ a. only _ (λ x c k. record { answer = c.reply.answer k; first = c.reply.first k; second = c.reply.second k; record_bytes = c.reply.record_bytes k; page = c.reply.page k; descriptor = c.descriptor k });
  replies_lent_numbers = λ a. only _ (λ x c k. record { numbers = record { answer = c.reply.answer k; first = c.reply.first k; second = c.reply.second k }; record_bytes = c.reply.record_bytes k; page = c.reply.page k; descriptor = c.descriptor k });
  replies_every = λ a. only _ (λ x c k. record { answer = (c []).answer k; first = (c []).first k; second = (c []).second k; record_bytes = (c []).record_bytes k });
  replies_every_numbers = λ a. only _ (λ x c k. record { numbers = record { answer = (c []).answer k; first = (c []).first k; second = (c []).second k }; record_bytes = (c []).record_bytes k });
  handed = λ n. only _ (λ x c k. record { answer = c.answer k; first = c.first k; second = c.second k });
  fresh = λ a. only _ (λ x c k. record { answer = c.answer k; record_bytes = c.record_bytes k });
}
