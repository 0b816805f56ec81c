-- For the private functions of `writer`.
use Rattle.std.specs.Prelude.{List, [], ◌∷◌, ◌++◌, ℕ, ◌+◌, length, take, drop}
use Rattle.sheet.specs.declared.Form.{Form}
use Rattle.writer.specs.Encode.{entry_bytes}

-- the count and the table of a sheet of three fields
abbrev pub head_of : Form → ℕ → ℕ → ℕ → ℕ → ℕ → List ℕ
head_of f x second y third z = 3 ∷ entry_bytes 1 1 19 x (entry_bytes f.second f.kind second y (entry_bytes f.third 3 third z []))

-- src written at `at`
abbrev pub overlay : List ℕ → ℕ → List ℕ → List ℕ
overlay old at src = take at old ++ (src ++ drop (at + length src) old)
