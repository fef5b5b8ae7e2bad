-- The request bits are filled with 0, and the byte behind them loses its bit 0.
use Rattle.std.proofs.Common.{◌∙◌, ◌*◌, ◌/◌, ap, ap₂}
use Rattle.page.specs.Page.{byte_at}
use Rattle.stores.specs.Stores.{set_byte}
use Rattle.descriptor.specs.Descriptor.{cleared}
use Rattle.joining.proofs.Cleared.{cleared-front, bit0-cleared}
use Rattle.joining.proofs.clear.Goals as goal

pub returns : goal.returns
unfolding cleared
returns c =
    c.set_byte.ensures
    ∙ ap₂ (λ l b. set_byte l 32 b)
    (cleared-front c.args.descriptor.now c.fill.new.self c.min-bits.result 32 (c.fill.ensures.after (λ y e. e)) c.min-bits.ensures)
    (ap (λ b. b / 2 * 2) c.byte_at-byte.ensures ∙ bit0-cleared (byte_at c.args.descriptor.now 32))
