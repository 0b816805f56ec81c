-- For the private functions of `transition`: texts of at most 256 bytes, so that the length fits 16 bits.
use Rattle.std.specs.Prelude.{List, ℕ, ◌≤◌, length}
use Rattle.sheet.specs.Fields.{field}
use Rattle.registry.specs.Readers.{bytes_of}

abbrev pub ShortTexts : List ℕ → Type 0
ShortTexts s = (name : ℕ) → length (bytes_of (field s name)) ≤ 256
