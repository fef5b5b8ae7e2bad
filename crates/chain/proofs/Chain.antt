-- A chain of calls is a run, so that conditions 1 and 3 hold of what a simulator calls. Assumes nothing.
use Rattle.std.specs.Prelude.{if◌then◌else◌}
use Prim.Native.Nat.{ℕ, ◌+◌, ◌^◌, ◌<◌}
use native.Mathlib.Omega.{arith}
use mathlib.Core.Path.{◌≡◌, refl, sym, ◌∙◌, ap, subst}
use mathlib.Core.Bool.{Bool, true, false, ◌&&◌, true≢false}
use mathlib.Core.List.{List, [], ◌∷◌}
use lib.Dec.{eqb, leb, ltb, lit<}
use lib.ListN.{length, replicate}
use borrow.Author.Tests.{eq-eqb}
use Rattle.processor.specs.declared.controls.Record.{Record}
use Rattle.processor.proofs.Tests.{left, right}
use Rattle.events.specs.Answers.{numbers}
use Rattle.events.specs.declared.event.Event.TheVariants.{Entry, FromCr8, Rdmsr}
use Rattle.page.specs.Page.{byte_at, word_at, long_at, word_within, long_within, IsPage}
use Rattle.stores.specs.Stores.{set_half, set_word, set_long}
use Rattle.meaning.specs.Input.{Input, given, external, leaves}
use Rattle.meaning.specs.After.{After}
use Rattle.meaning.specs.External.{descriptor_by}
use Rattle.meaning.specs.Step.{step_by, step, descriptor_after}
use Rattle.meaning.specs.Run.{Held, start, step_of, held_after, after}
use Rattle.meaning.specs.Widths.{ControlsFit, RecordFits, InputFits}
use Rattle.meaning.proofs.Refused.{refusal-5}
use Rattle.conditions.proofs.Condition1.{nothing-changes}
use Rattle.conditions.proofs.Laws.{laws, fits}
use Rattle.conditions.proofs.Invariant.{start-inv}
use Rattle.descriptor.specs.Descriptor.{descriptor_fits}
use Rattle.layout.specs.RecordBytes.{controls_of, reserved_zero, record_readable, record_of}
use Rattle.keeping.specs.KeptBytes.{controls_bytes, truth_byte, record_bytes, bytes_of, kept}
use Rattle.layout.specs.EventBytes.{event_readable, memory_read_of, memory_write_of, to_cr8_of, wrmsr_of, boundary_of, request_of, event_of}
use Rattle.replies.specs.Replies.{Reply, refused, replied, model_reply, gg_step, external_reply, gg_external_interrupt, leave_reply, gg_leave}
use Rattle.keeping.proofs.RoundTrip.{stored-length, read_back, stored-readable, stored-over}
use Rattle.chain.specs.Chain.{Call, steps, interrupts, leave, Lent, begin, reply_to, chain, brought, can_be_read, input_of, inputs, told, CallBytes, AllBytes, held_of, IsRun, LeavesDescriptor}

-- ---- an entry's controls, read from bytes, fit
word_fits : (e : List ℕ) (at : ℕ) → ((i : ℕ) → byte_at e i < 256) → word_at e at < 2 ^ 32
unfolding word_at
word_fits e at h = by (h at) (h (at + 1)) (h (at + 2)) (h (at + 3))
  where
    by : byte_at e at < 256 → byte_at e (at + 1) < 256 → byte_at e (at + 2) < 256 → byte_at e (at + 3) < 256 → word_at e at < 2 ^ 32
    by h₀ h₁ h₂ h₃ = omega arith

within_word : (e : List ℕ) (at : ℕ) → ((i : ℕ) → byte_at e i < 256) → word_within e at < 2 ^ 32
unfolding word_within
within_word e at h = by (leb (at + 4) (length e))
  where
    by : (b : Bool) → (if b then word_at e at else 0) < 2 ^ 32
    by true = word_fits e at h
    by false = lit< tt

within-long : (e : List ℕ) (at : ℕ) → ((i : ℕ) → byte_at e i < 256) → long_within e at < 2 ^ 64
unfolding long_within long_at
within-long e at h = by (leb (at + 8) (length e)) (word_fits e at h) (word_fits e (at + 4) h)
  where
    by : (b : Bool) → word_at e at < 2 ^ 32 → word_at e (at + 4) < 2 ^ 32 → (if b then long_at e at else 0) < 2 ^ 64
    by true l k = omega arith
    by false l k = lit< tt

controls-fit : (e : List ℕ) → ((i : ℕ) → byte_at e i < 256) → ControlsFit (controls_of e)
unfolding controls_of
controls-fit e h = record {
  flags = within_word e 8 h;
  threshold = within_word e 4 h;
  notification = omega arith;
  eoi₀ = within-long e 16 h;
  eoi₁ = within-long e 24 h;
  eoi₂ = within-long e 32 h;
  eoi₃ = within-long e 40 h;
}

clash : ◌≡◌ {A = ℕ} 0 1 → ⊥
clash z = omega arith

-- only kind 1 is an entry
event-fits : (e : List ℕ) → ((i : ℕ) → byte_at e i < 256) → InputFits (given (event_of e))
unfolding event_of memory_read_of memory_write_of to_cr8_of wrmsr_of boundary_of request_of
event-fits e h c q = by (eqb (byte_at e 0) 1) (eqb (byte_at e 0) 2) (eqb (byte_at e 0) 3) (eqb (byte_at e 0) 4) (eqb (byte_at e 0) 5) (eqb (byte_at e 0) 6) (eqb (byte_at e 0) 7) (eqb (byte_at e 0) 8) q
  where
    none : ◌≡◌ {A = ℕ} 0 1 → ControlsFit c
    none z = absurd (clash z)

    by : (k₁ k₂ k₃ k₄ k₅ k₆ k₇ k₈ : Bool) → given (if k₁ then Entry (controls_of e) else (if k₂ then memory_read_of e else (if k₃ then memory_write_of e else (if k₄ then to_cr8_of e else (if k₅ then FromCr8 (byte_at e 3) else (if k₆ then Rdmsr (word_within e 4) else (if k₇ then wrmsr_of e else (if k₈ then boundary_of e else request_of e)))))))) ≡ given (Entry c) → ControlsFit c
    by true k₂ k₃ k₄ k₅ k₆ k₇ k₈ q = subst ControlsFit (let s : controls_of e ≡ c = cc in s) (controls-fit e h)
    by false true k₃ k₄ k₅ k₆ k₇ k₈ q = none (cc)
    by false false true k₄ k₅ k₆ k₇ k₈ q = none (cc)
    by false false false true k₅ k₆ k₇ k₈ q = none (cc)
    by false false false false true k₆ k₇ k₈ q = none (cc)
    by false false false false false true k₇ k₈ q = none (cc)
    by false false false false false false true k₈ q = none (cc)
    by false false false false false false false true q = none (cc)
    by false false false false false false false false q = none (cc)

leave_fits : InputFits leaves
leave_fits c q = absurd (clash (cc))

external-fits : (d : List ℕ) (vector : ℕ) → InputFits (external d vector)
external-fits d vector c q = absurd (clash (cc))

call_fits : (c : Call) → CallBytes c → InputFits (input_of c)
call_fits (steps e) h = event-fits e h
call_fits (interrupts d vector) h = external-fits d vector
call_fits leave h = leave_fits

-- ---- the bytes of a record: 48 that can be read, as that record
zeros : length (replicate {A = ℕ} 48 0) ≡ 48
zeros = refl

reserved : reserved_zero (replicate 48 0) ≡ true
unfolding word_within word_at
reserved = refl

module _ (r : Record) where
  bytes-length : length (bytes_of r) ≡ 48
  bytes-length = stored-length (replicate 48 0) r zeros

  bytes-readable : record_readable (bytes_of r) ≡ true
  bytes-readable = stored-readable (replicate 48 0) r zeros reserved

  bytes_read : RecordFits r → record_of (bytes_of r) ≡ r
  bytes_read f = read_back (replicate 48 0) r zeros f

  -- they take what an input leaves
  bytes-kept : (answer : ℕ) (s : Record) → (ltb answer 4 ≡ true → s ≡ r) → kept (bytes_of r) answer s ≡ bytes_of s
  unfolding kept
  bytes-kept answer s e = by (ltb answer 4) refl
    where
      by : (b : Bool) → ltb answer 4 ≡ b → (if b then bytes_of r else record_bytes (bytes_of r) s) ≡ bytes_of s
      by true q = ap bytes_of (sym (e q))
      by false q = stored-over (replicate 48 0) r zeros s

-- ---- what is lent where something is held
abbrev lent_of : Held → Lent
lent_of h = record { page = h.page; record_bytes = bytes_of h.state }

abbrev shown : After → Reply
shown a = record { answer = a.answer.answer; first = a.answer.first; second = a.answer.second; record_bytes = bytes_of a.state; page = a.page }

-- a page, and a record that fits
record Whole (h : Held) : Type 0 where
  pub is_page : IsPage h.page
  pub fit : RecordFits h.state

module _ (p : List ℕ) (r : Record) (g : IsPage p) (f : RecordFits r) where
  took : (i : Input) → replied (bytes_of r) (step p r i) ≡ shown (step p r i)
  took i = ap (λ b. record { answer = (step p r i).answer.answer; first = (step p r i).answer.first; second = (step p r i).answer.second; record_bytes = b; page = (step p r i).page }) (bytes-kept r (step p r i).answer.answer (step p r i).state (λ t. (nothing-changes p r i t).1))

  -- a call that can be read is its input's step
  step-read : (e : List ℕ) → eqb (length e) 48 ≡ true → event_readable e ≡ true → gg_step p (bytes_of r) e ≡ shown (step p r (given (event_of e)))
  unfolding gg_step model_reply
  step-read e l q = simp (eq-eqb (length p) 4096 g.size, eq-eqb (length (bytes_of r)) 48 (bytes-length r), l, bytes-readable r, q, bytes_read r f) (took (given (event_of e)))

  leave-read : gg_leave p (bytes_of r) ≡ shown (step p r leaves)
  unfolding gg_leave leave_reply
  leave-read = simp (eq-eqb (length (bytes_of r)) 48 (bytes-length r), bytes-readable r, bytes_read r f) (took leaves)

  -- the same of an external interrupt: a descriptor of another length is refused before the record is read, and by the model too
  refused-5 : (d : List ℕ) (vector : ℕ) → descriptor_fits d ≡ false → refused 5 p (bytes_of r) ≡ shown (step p r (external d vector))
  unfolding step step_by
  refused-5 d vector q = simp (refusal-5 p r (external d vector) (eq-eqb (length p) 4096 g.size) q)

  external-read : (d : List ℕ) (vector : ℕ) → (gg_external_interrupt p (bytes_of r) d vector).reply ≡ shown (step p r (external d vector))
  unfolding gg_external_interrupt external_reply
  external-read d vector = by (descriptor_fits d) refl
    where
      by : (x : Bool) → descriptor_fits d ≡ x → (gg_external_interrupt p (bytes_of r) d vector).reply ≡ shown (step p r (external d vector))
      by true q = simp (eq-eqb (length p) 4096 g.size, q, eq-eqb (length (bytes_of r)) 48 (bytes-length r), bytes-readable r, bytes_read r f) (took (external d vector))
      by false q = simp (eq-eqb (length p) 4096 g.size, q) (refused-5 d vector q)

  external-left : (d : List ℕ) (vector : ℕ) → (gg_external_interrupt p (bytes_of r) d vector).descriptor ≡ descriptor_after p r d vector
  unfolding gg_external_interrupt external_reply descriptor_after descriptor_by
  external-left d vector = by (descriptor_fits d) refl
    where
      by : (x : Bool) → descriptor_fits d ≡ x → (gg_external_interrupt p (bytes_of r) d vector).descriptor ≡ descriptor_after p r d vector
      by true q = simp (eq-eqb (length p) 4096 g.size, q, eq-eqb (length (bytes_of r)) 48 (bytes-length r), bytes-readable r, bytes_read r f)
      by false q = simp (eq-eqb (length p) 4096 g.size, q, refusal-5 p r (external d vector) (eq-eqb (length p) 4096 g.size) q)

  -- any other is refused, and changes nothing
  step-unread : (e : List ℕ) → (eqb (length e) 48 && event_readable e) ≡ false → gg_step p (bytes_of r) e ≡ refused 2 p (bytes_of r)
  unfolding gg_step
  step-unread e q = by (eqb (length e) 48) (event_readable e) refl refl q
    where
      by : (x y : Bool) → eqb (length e) 48 ≡ x → event_readable e ≡ y → (x && y) ≡ false → gg_step p (bytes_of r) e ≡ refused 2 p (bytes_of r)
      by true true ex ey q = absurd (true≢false q)
      by true false ex ey q = simp (eq-eqb (length p) 4096 g.size, eq-eqb (length (bytes_of r)) 48 (bytes-length r), ex, bytes-readable r, ey)
      by false y ex ey q = simp (eq-eqb (length p) 4096 g.size, eq-eqb (length (bytes_of r)) 48 (bytes-length r), ex)

module _ (h : Held) (w : Whole h) where
  reply-read : (c : Call) → can_be_read c ≡ true → reply_to (lent_of h) c ≡ shown (step_of h (input_of c))
  reply-read (steps e) q = step-read h.page h.state w.is_page w.fit e (left (eqb (length e) 48) (event_readable e) q) (right (eqb (length e) 48) (event_readable e) q)
  reply-read (interrupts d vector) q = external-read h.page h.state w.is_page w.fit d vector
  reply-read leave q = leave-read h.page h.state w.is_page w.fit

  reply-unread : (c : Call) → can_be_read c ≡ false → reply_to (lent_of h) c ≡ refused 2 h.page (bytes_of h.state)
  reply-unread (steps e) q = step-unread h.page h.state w.is_page w.fit e q
  reply-unread (interrupts d vector) q = absurd (true≢false q)
  reply-unread leave q = absurd (true≢false q)

  whole-after : (c : Call) → CallBytes c → Whole (held_after (step_of h (input_of c)))
  whole-after c b = record {
    is_page = (laws h.page h.state (input_of c) w.is_page w.fit.vectors).is_page;
    fit = fits h.page h.state (input_of c) w.is_page w.fit (call_fits c b);
  }

-- ---- any list of calls
record Follows (h : Held) (cs : List Call) : Type 0 where
  pub numbers : brought (lent_of h) cs ≡ told h cs
  pub lent : chain (lent_of h) cs ≡ lent_of (after h (inputs cs))
  pub whole : Whole (after h (inputs cs))

follows : (h : Held) (cs : List Call) → Whole h → AllBytes cs → Follows h cs
follows h [] w b = record { numbers = refl; lent = refl; whole = w }
follows h (c ∷ cs) w b = by (follows (held_after (step_of h (input_of c))) cs (whole-after h w c b.0) b.1) (follows h cs w b.1) (can_be_read c) refl
  where
    by : Follows (held_after (step_of h (input_of c))) cs → Follows h cs → (x : Bool) → can_be_read c ≡ x → Follows h (c ∷ cs)
    by f g true q = record {
      numbers = simp (q, reply-read h w c q) (ap (λ ns. (step_of h (input_of c)).answer ∷ ns) f.numbers);
      lent = simp (q, reply-read h w c q) f.lent;
      whole = simp q f.whole;
    }
    by f g false q = record {
      numbers = simp (q, reply-unread h w c q) (ap (λ ns. numbers 0 2 0 ∷ ns) g.numbers);
      lent = simp (q, reply-unread h w c q) g.lent;
      whole = simp q g.whole;
    }

-- ---- from the start
start-whole : Whole start
start-whole = record {
  is_page = start-inv.is_page;
  fit = record {
    vectors = record { rvi = lit< tt; svi = lit< tt };
    controls = record { flags = lit< tt; threshold = lit< tt; notification = lit< tt; eoi₀ = lit< tt; eoi₁ = lit< tt; eoi₂ = lit< tt; eoi₃ = lit< tt };
  };
}

start-lent : begin ≡ lent_of start
unfolding record_bytes controls_bytes set_half set_word set_long truth_byte
start-lent = refl

pub chain-is-run : (cs : List Call) → AllBytes cs → IsRun cs
chain-is-run cs b =
    let f : Follows start cs = follows start cs start-whole b in
    let led : chain begin cs ≡ lent_of (after start (inputs cs)) = ap (λ l. chain l cs) start-lent ∙ f.lent in
    record {
      numbers = ap (λ l. brought l cs) start-lent ∙ f.numbers;
      page = ap (λ (l : Lent). l.page) led;
      record_bytes = ap (λ (l : Lent). l.record_bytes) led;
      readable = subst (λ l. record_readable l.record_bytes ≡ true) (sym led) (bytes-readable (after start (inputs cs)).state);
      held =
          subst (λ l. held_of l ≡ after start (inputs cs)) (sym led)
          (ap (λ r. record { page = (after start (inputs cs)).page; state = r }) (bytes_read (after start (inputs cs)).state f.whole.fit));
    }

-- the descriptor that a call leaves after any others
pub chain-descriptor : (cs : List Call) (d : List ℕ) (vector : ℕ) → AllBytes cs → LeavesDescriptor cs d vector
chain-descriptor cs d vector b =
    let f : Follows start cs = follows start cs start-whole b in
    let h : Held = after start (inputs cs) in
    ap (λ (l : Lent). (gg_external_interrupt l.page l.record_bytes d vector).descriptor) (ap (λ l. chain l cs) start-lent ∙ f.lent)
    ∙ external-left h.page h.state f.whole.is_page f.whole.fit d vector
