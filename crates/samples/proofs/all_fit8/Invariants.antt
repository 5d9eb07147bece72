-- That all before fitted, and that what is left does, is that all do. Assumes nothing.
use Rattle.std.proofs.Common.{◌≡◌, ◌&&◌, drop}
use Rattle.xm.specs.Delta.{all_fit}
use Rattle.samples.proofs.all_fit8.Given as goal

abbrev pub invariant-loop-value : goal.invariant-loop-value
invariant-loop-value l = (l.fit && all_fit 8 (drop l.value-index l.values)) ≡ all_fit 8 l.values
