-- Document 01, "Registers on the page": where the registers lie, offsets in hex.
use Rattle.std.specs.Prelude.{ℕ}

abbrev pub vtpr : ℕ
vtpr = 0x080

abbrev pub vppr : ℕ
vppr = 0x0a0

abbrev pub veoi : ℕ
veoi = 0x0b0

abbrev pub visr : ℕ
visr = 0x100

abbrev pub virr : ℕ
virr = 0x200

abbrev pub vicr_lo : ℕ
vicr_lo = 0x300

abbrev pub vicr_hi : ℕ
vicr_hi = 0x310
