use Rattle.amount.proofs.Scaling.{ten_pos}
use Rattle.amount.proofs.Halves.{division_val, division_left}
use Rattle.amount.proofs.reduce_by.Goals as goal

pub div_rem-d-requires : goal.div_rem-d-requires
div_rem-d-requires c = rw c.power_of_ten.ensures (ten_pos _)

pub returns : goal.returns
returns c =
    let e = rw c.power_of_ten.ensures at c.div_rem-d.ensures in
    λ n j h. c.reduced_to.ensures n j _ h (division_val _ _ e) (division_left _ _ e)
