-- The parts that an instrument is written in, by the bytes of its own structure, of which those that are not there are 0.
use Rattle.std.specs.Prelude.{ℕ, ◌-◌, List, ◌++◌, take, drop}
use Rattle.xm.specs.Number.{long}
use Rattle.xm.specs.ModuleKind.{padded}
use Rattle.xm.specs.Format.{joined}
use Rattle.xm.specs.Instrument.{least_stripped, voice_from, voice_size}
use Rattle.heads.specs.Sample.{heads_from}

-- H, and bytes 33 to 240.
abbrev pub voice_in : (head_size : ℕ) → List ℕ → List ℕ
voice_in head_size s = long head_size ++ padded voice_size (drop voice_from s)

-- I, and as many fields as it says: name, type and k, then those; what follows is reserved.
abbrev pub fields_in : (size head_size : ℕ) → List ℕ → List ℕ
fields_in size head_size s = long size ++ padded (size - least_stripped) (padded 25 (drop 4 s) ++ voice_in head_size s)

-- The first bytes of each of `count` sample headers.
abbrev pub heads_cut : (count size kept : ℕ) → List ℕ → List ℕ
heads_cut count size kept s = joined (take kept) (heads_from count size s)
