-- `line::fill_line` meets its contract: a line has room, and is that of what is listed. Assumes nothing.
use Rattle.std.proofs.Common.{arith, [], ◌∷◌}
use Rattle.line.proofs.Put.{numbered_few}
use Rattle.line.proofs.fill_line.Goals as goal

pub put_line-requires-in-Err : goal.put_line-requires-in-Err
put_line-requires-in-Err c =
    let f = c.in-Err.refusal in
    omega (arith, numbered_few (f.number ∷ f.place ∷ []) (omega arith, (omega arith, tt)))
