-- Of a file that was accepted: what stands where.
use Rattle.std.specs.Prelude.{ℕ, ◌+◌, List, ◌≡◌, drop, replicate}
use Rattle.xm.specs.Got.{got, list_in}
use Rattle.xm.specs.Format.{Format, each}
use Rattle.xm.specs.Header.{instruments_at, kind_at}
use Rattle.xm.specs.Instrument.{instrument_format}
use Rattle.xm.specs.Module.{Found, read_file}

-- From a place to an end so many parts are read, all of one kind.
pub record ReadsFrom {H I A : Type 0} (F : Format H I A) (h : H) (file : List ℕ) (count place : ℕ) (parts : List I) (end : ℕ) : Type 0 where
  pub used : ℕ
  pub reads : (each F).read (replicate count h) place (drop place file) ≡ got parts used
  pub ends : place + used ≡ end

-- The instruments of a file, of its own kind.
pub record InstrumentsFrom (file : List ℕ) (place : ℕ) : Type 0 where
  pub end : ℕ
  pub reads : ReadsFrom (instrument_format (kind_at file)) tt file (instruments_at file) place (list_in (λ (found : Found). found.1.1) (read_file file)) end
