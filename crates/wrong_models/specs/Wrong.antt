-- Document 01, "How tightly each answer is bound": the five models that must be shown to break the claims.
use Rattle.std.specs.Prelude.{ℕ, ◌+◌, ◌-◌, ◌≡◌, false, not, ◌&&◌, List, [], ◌∷◌, ◌++◌, eqb, take, drop, if◌then◌else◌}
use Rattle.processor.specs.Offsets.{visr}
use Rattle.processor.specs.declared.controls.Record.{Record}
use Rattle.events.specs.declared.event.Event.TheVariants.{Entry, Request}
use Rattle.page.specs.Page.{byte_at}
use Rattle.stores.specs.Stores.{set_byte}
use Rattle.registers.specs.Vectors.{is_set}
use Rattle.meaning.specs.Input.{Input}
use Rattle.meaning.specs.After.{refused, exit, quiet}
use Rattle.meaning.specs.Step.{step}
use Rattle.meaning.specs.Run.{start}
use Rattle.meaning.specs.Bench.{controls_v, boundary_open, each}
use Rattle.conditions.specs.Moves.{Move, stays, raises, delivers, retires, move_of, is_delivered}
use Rattle.conditions.specs.Condition3.{depth}
use Rattle.wrong_models.specs.Models.{Model, run_by, serving_by}

-- a model that refuses everything, by any refusal and check
abbrev pub refuses_everything : ℕ → ℕ → Model
refuses_everything number check p r i = refused number check p r

-- one that always exits 44, with any qualification
abbrev pub exits44 : (Input → ℕ) → Model
exits44 qualification p r i = exit 44 (qualification i) p r

-- one that touches nothing and says quiet
abbrev pub touches_nothing : Model
touches_nothing p r i = quiet p r

-- one that delivers once and afterwards only names vectors without moving bits: where a vector is in service a delivery leaves the page,
-- whatever the record then is
abbrev pub names_only : (List ℕ → Record → Record) → Model
names_only next p r i =
    if is_delivered (step p r i).answer && not (eqb r.svi 0)
    then record { answer = (step p r i).answer; state = next p r; page = p }
    else step p r i

-- one whose nest depth is a stored number unrelated to VISR: a byte that is nobody's counts deliveries up and retirements down, and VISR
-- stays as it was
abbrev pub depth_byte : ℕ
depth_byte = visr + 4

abbrev pub counted : Move → ℕ → ℕ
counted stays n = n
counted (raises vs) n = n
counted (delivers v) n = n + 1
counted retires n = n - 1

abbrev pub with_visr_of : List ℕ → List ℕ → List ℕ
with_visr_of p q = take visr q ++ (take 0x80 (drop visr p) ++ drop (visr + 0x80) q)

abbrev pub stored_depth : Model
stored_depth p r i =
    record {
      answer = (step p r i).answer;
      state = (step p r i).state;
      page = set_byte (with_visr_of p (step p r i).page) depth_byte (counted (move_of i (step p r i).answer) (byte_at p depth_byte));
    }

-- after K1's inputs 60H is delivered and the stored number is 1, but no service bit is set
abbrev pub one_delivered : List Input
one_delivered = each (Request 0x60 ∷ Entry controls_v ∷ boundary_open ∷ [])

pub record Apart : Type 0 where
  pub delivered : serving_by stored_depth one_delivered ≡ 0x60 ∷ []
  pub stored : byte_at (run_by stored_depth start one_delivered).page depth_byte ≡ 1
  pub unset : is_set (run_by stored_depth start one_delivered).page visr 0x60 ≡ false
  pub empty : depth (run_by stored_depth start one_delivered) ≡ 0
