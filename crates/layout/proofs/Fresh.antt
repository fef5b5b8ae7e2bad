-- The bytes that gg_fresh leaves are read as the fresh record. Assumes nothing.
use mathlib.Core.Path.{◌≡◌, refl}
use mathlib.Core.Bool.{true}
use lib.ListN.{replicate}
use Rattle.processor.specs.Controls.{fresh}
use Rattle.page.specs.Page.{word_at, long_at, word_within, long_within}
use Rattle.layout.specs.RecordBytes.{record_readable, record_of, controls_of}

pub fresh-readable : record_readable (replicate 48 0) ≡ true
unfolding word_at word_within
fresh-readable = refl

pub fresh-read : record_of (replicate 48 0) ≡ fresh
unfolding record_of controls_of word_at long_at word_within long_within
fresh-read = refl
