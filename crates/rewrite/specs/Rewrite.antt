-- For contracts inside the crate: places that were moved on, each by a field's bit.
use Rattle.std.specs.Prelude.{ℕ, ◌+◌, ◌≤◌}

pub record Moved (p0 p1 p2 p3 p4 p5 : ℕ) : Type 0 where
  pub start : p0 ≤ 1
  pub first : p0 ≤ p1
  pub first_most : p1 ≤ p0 + 1
  pub second : p1 ≤ p2
  pub second_most : p2 ≤ p1 + 1
  pub third : p2 ≤ p3
  pub third_most : p3 ≤ p2 + 1
  pub fourth : p3 ≤ p4
  pub fourth_most : p4 ≤ p3 + 1
  pub fifth : p4 ≤ p5
  pub fifth_most : p5 ≤ p4 + 1
