-- An answer behind the test of a limit: above it the refusal, and within it the answer. Assumes nothing.
use Rattle.std.proofs.Common.{◌≡◌, ℕ, ◌<◌, ◌≤◌, arith}
use Rattle.xm.specs.Got.{◌at◌}
use Rattle.xm.specs.Answer.{Answer, refuses, behind}
use Rattle.xm.specs.Delta.{limit_test}
use Rattle.xm.proofs.Answer.{behind-holds, behind_fails}

module _ {A : Type 0} (most count : ℕ) (answer : Answer A) where
  pub above_limit : most < count → behind (limit_test most count) answer ≡ refuses (16 at 0)
  above_limit h = behind_fails (limit_test most count) answer (λ k. omega arith)

  pub within_limit : count ≤ most → behind (limit_test most count) answer ≡ answer
  within_limit h = behind-holds (limit_test most count) answer h
