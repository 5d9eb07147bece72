-- The listing's line, as ASCII text: "`ok 345 1 1 0 0` (end, channels, patterns, instruments, samples)", "`refused 4 0` (number, place)".
use Rattle.std.specs.Prelude.{ℕ, cond, List, [], ◌∷◌, ◌++◌, map, leb, length}
use Rattle.xm.specs.Got.{◌at◌}
use Rattle.xm.specs.Answer.{Answer, gives, refuses}
use Rattle.xm.specs.Table.{CheckReport, check_results, checking}
use Rattle.line.specs.Decimal.{decimal}

abbrev pub space : ℕ
space = 0x20

abbrev pub newline : ℕ
newline = 0x0A

abbrev pub ok_word : List ℕ
ok_word = 0x6F ∷ 0x6B ∷ []

abbrev pub refused_word : List ℕ
refused_word = 0x72 ∷ 0x65 ∷ 0x66 ∷ 0x75 ∷ 0x73 ∷ 0x65 ∷ 0x64 ∷ []

-- Each number behind a space, and then the line's end.
abbrev pub numbered : List ℕ → List ℕ
numbered [] = newline ∷ []
numbered (n ∷ ns) = space ∷ (decimal n ++ numbered ns)

abbrev pub results_of : CheckReport → List ℕ
results_of c = map (λ result. result c) check_results

abbrev pub line_of : Answer CheckReport → List ℕ
line_of (gives c) = ok_word ++ numbered (results_of c)
line_of (refuses r) = refused_word ++ numbered (r.number ∷ r.place ∷ [])

-- "65,536 or more input bytes give `refused 2 0`."
abbrev pub listed_most : ℕ
listed_most = 65535

unfoldable pub listing : (input : List ℕ) → Answer CheckReport
listing input = cond (leb (length input) listed_most) (checking input) (refuses (2 at 0))
