-- Counts of 64 bits, in rows of two and in lists of rows.
use Rattle.std.specs.Prelude.{ℕ, ◌+◌, ◌%◌, ◌^◌, Bool, true, false, List, ◌++◌, get_or, set, codes}
use Rattle.std.specs.Fmt.{decimal}
use Rattle.tally.specs.declared.Row.{Row}

-- no cases
abbrev pub none : Row
none = record { equal = 0; unequal = 0 }

-- k cases and n more, as 64 bits hold them
abbrev pub sum_of : ℕ → ℕ → ℕ
sum_of k n = (k + n) % 2 ^ 64

-- the row with n cases more on one side, and the other as it was
abbrev pub counted : Row → Bool → ℕ → Row
counted r true n = record { equal = sum_of r.equal n; unequal = r.unequal }
counted r false n = record { equal = r.equal; unequal = sum_of r.unequal n }

-- the rows with one case more in row i, and the others as they were
abbrev pub counted_at : List Row → ℕ → Bool → List Row
counted_at rows i equal = set rows i (counted (get_or rows i none) equal 1)

-- what is printed of a row
abbrev pub row_text : Row → List ℕ
row_text r = decimal r.equal ++ (codes " equal, " ++ (decimal r.unequal ++ codes " unequal"))
