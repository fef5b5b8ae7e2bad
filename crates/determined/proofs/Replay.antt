-- The claims of the functions that a replay is made of allow one outcome: each is a record of equations. Assumes nothing.
use Rattle.program.proofs.Program.{itself}
use Rattle.determined.specs.Replay.{ReplayDetermined}
use Rattle.determined.proofs.Laws.{only}

pub replay-determined : ReplayDetermined
replay-determined = record {
  writes = λ o at text. only _ (λ x c k. record { next = c.place k; buffer = c.buffer k });
  reader_new = λ t. only _ (λ r c k. record { trace = c.0 k; place = c.1 k });
  reader_next = λ r. only _ (λ q c k. record { trace = c.0 k; place = c.1 k });
  begins = only _ (λ s c k. record { «record» = c.state k; controls = c.controls k });
  tells = λ s b. only _ (λ x c k. record {
    result = record { numbers = c.answer k; state = record { «record» = (c.session k).held.state; controls = (c.session k).controls } };
    page = (c.session k).held.page;
  });
  replays = λ t limit o. only _ (λ x c k. record { result = c.told k; buffer = c.buffer k });
  program = λ b n o. only _ (λ x c k. record { result = (itself c).written k; buffer = (itself c).text k });
  gg_replays = λ t limit o. only _ (λ x c k. record { answer = c.fits k; written = c.number k; buffer = c.buffer k });
}
