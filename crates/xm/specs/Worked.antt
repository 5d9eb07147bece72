-- Worked files of stripped modules and of conversions, as one table: a case says what goes in and what comes out. `done` puts in what the definitions
-- give; the claim (proofs/Worked.antt) is that this changes no case.
use Rattle.std.specs.Prelude.{ℕ, List, [], ◌∷◌, ◌++◌, length, replicate}
use Rattle.xm.specs.ModuleKind.{ModuleKind, normal, stripped}
use Rattle.xm.specs.Format.{flat, pattern_header, instrument, sample_header}
use Rattle.xm.specs.Answer.{Answer, gives}
use Rattle.xm.specs.Table.{check_numbers}
use Rattle.xm.specs.Structure.{Standing, stands, ended, called, read_for}
use Rattle.xm.specs.Press.{pressing}
use Rattle.xm.specs.Convert.{converting}
use Rattle.xm.specs.Bench.{answer_list}

pub data Case : Type 0 where
  checks : (file numbers : List ℕ) → Case
  presses : (file pressed : List ℕ) → Case
  converts : (to : ModuleKind) (file written : List ℕ) → Case
  hands : (file : List ℕ) (number : ℕ) → Answer Standing → Case

abbrev pub done : Case → Case
done (checks file numbers) = checks file (check_numbers file)
done (presses file pressed) = presses file (answer_list (λ bytes. bytes) (pressing file (length pressed)))
done (converts to file written) = converts to file (answer_list (λ bytes. bytes) (converting to file (length written)))
done (hands file number answer) = hands file number (called file (read_for file number))

-- The files are written out, so that no number in them is a definition's; `nulls` is a run of bytes 0.
abbrev nulls : (count : ℕ) → List ℕ
nulls count = replicate count 0

-- "Extended module: "
abbrev extended : List ℕ
extended = 69 ∷ 120 ∷ 116 ∷ 101 ∷ 110 ∷ 100 ∷ 101 ∷ 100 ∷ 32 ∷ 109 ∷ 111 ∷ 100 ∷ 117 ∷ 108 ∷ 101 ∷ 58 ∷ 32 ∷ []

-- A module of one order, channel and pattern, of 64 empty rows: ID text, module name, mark, tracker name, version, header size; song length,
-- restart, channels, patterns, instruments, flags, tempo, BPM; orders; the pattern's header.
abbrev pub headed : (id mark tracker version size : List ℕ) (instruments : ℕ) (orders : List ℕ) → List ℕ
headed id mark tracker version size instruments orders = flat (
    id
    ∷ nulls 20
    ∷ mark
    ∷ tracker
    ∷ version
    ∷ size
    ∷ (1 ∷ 0 ∷ 0 ∷ 0 ∷ 1 ∷ 0 ∷ 1 ∷ 0 ∷ instruments ∷ 0 ∷ 0 ∷ 0 ∷ 6 ∷ 0 ∷ 125 ∷ 0 ∷ [])
    ∷ orders
    ∷ (9 ∷ 0 ∷ 0 ∷ 0 ∷ 0 ∷ 64 ∷ 0 ∷ 0 ∷ 0 ∷ [])
    ∷ [])

-- In its shortest form it takes 345 bytes, and stripped 90.
abbrev pub small : ModuleKind → (instruments : ℕ) → List ℕ
small normal instruments = headed extended (0x1A ∷ []) (nulls 20) (4 ∷ 1 ∷ []) (20 ∷ 1 ∷ 0 ∷ 0 ∷ []) instruments (nulls 256)
small stripped instruments = headed (nulls 17) (0 ∷ []) (nulls 20) (0 ∷ 0 ∷ []) (21 ∷ 0 ∷ 0 ∷ 0 ∷ []) instruments (nulls 1)

-- The normal one with a tracker name; and the same, padding and all, as a stripped one.
abbrev pub named : (mark version : List ℕ) → List ℕ
named mark version = headed extended mark (replicate 20 70) version (20 ∷ 1 ∷ 0 ∷ 0 ∷ []) 0 (nulls 256)

-- Stripped instruments: nothing; a sample count at 27, of headers of no bytes; and one sample of five bytes, whose header is its length.
abbrev pub no_bytes : List ℕ
no_bytes = 4 ∷ 0 ∷ 0 ∷ 0 ∷ []

abbrev pub counted : (I k : ℕ) → List ℕ
counted I k = flat ((I ∷ 0 ∷ 0 ∷ 0 ∷ []) ∷ nulls 23 ∷ (k ∷ []) ∷ [])

abbrev pub five_bytes : List ℕ
five_bytes = flat ((30 ∷ 0 ∷ 0 ∷ 0 ∷ []) ∷ nulls 23 ∷ (1 ∷ 0 ∷ 1 ∷ []) ∷ (5 ∷ []) ∷ (1 ∷ 2 ∷ 3 ∷ 4 ∷ 5 ∷ []) ∷ [])

-- One sample whose header is cut behind the last byte that isn't 0: of kind AD and one value, by its form (A5); and a loop at 16 bits (A7).
abbrev pub sampled : (H : ℕ) (head bytes : List ℕ) → List ℕ
sampled H head bytes = flat ((30 ∷ 0 ∷ 0 ∷ 0 ∷ []) ∷ nulls 23 ∷ (1 ∷ 0 ∷ H ∷ []) ∷ head ∷ bytes ∷ [])

abbrev pub one_value : (form : ℕ) → List ℕ
one_value form = sampled 18 (flat ((1 ∷ 0 ∷ 0 ∷ 0 ∷ []) ∷ nulls 10 ∷ (form ∷ 0 ∷ 0 ∷ 0xAD ∷ []) ∷ [])) (replicate 17 7)

abbrev pub looped : (start size : ℕ) → List ℕ
looped start size = sampled 15 (4 ∷ 0 ∷ 0 ∷ 0 ∷ start ∷ 0 ∷ 0 ∷ 0 ∷ size ∷ 0 ∷ 0 ∷ 0 ∷ 0 ∷ 0 ∷ 17 ∷ []) (replicate 4 7)

-- An instrument of one sample whose own byte 37 is 1, in its note map.
abbrev pub noted : List ℕ
noted = flat ((38 ∷ 0 ∷ 0 ∷ 0 ∷ []) ∷ nulls 23 ∷ (1 ∷ 0 ∷ []) ∷ nulls 8 ∷ (1 ∷ []) ∷ [])

-- The sample of five bytes in the normal form; and stripped with an I and an H that are larger than they need be.
abbrev pub five_normal : List ℕ
five_normal = flat (
    (7 ∷ 1 ∷ 0 ∷ 0 ∷ [])
    ∷ nulls 23
    ∷ (1 ∷ 0 ∷ 40 ∷ 0 ∷ 0 ∷ 0 ∷ [])
    ∷ nulls 230
    ∷ (5 ∷ 0 ∷ 0 ∷ 0 ∷ [])
    ∷ nulls 36
    ∷ (1 ∷ 2 ∷ 3 ∷ 4 ∷ 5 ∷ [])
    ∷ [])

abbrev pub five_longer : List ℕ
five_longer = flat ((35 ∷ 0 ∷ 0 ∷ 0 ∷ []) ∷ nulls 23 ∷ (1 ∷ 0 ∷ 3 ∷ 0 ∷ 0 ∷ 0 ∷ []) ∷ nulls 2 ∷ (5 ∷ 0 ∷ 0 ∷ []) ∷ (1 ∷ 2 ∷ 3 ∷ 4 ∷ 5 ∷ []) ∷ [])

abbrev pub cases : List Case
cases =
    checks (small stripped 0) (0 ∷ 0 ∷ 90 ∷ 1 ∷ 1 ∷ 0 ∷ 0 ∷ [])
    -- neither pair of mark and version; header size 20
    ∷ checks (named (0 ∷ []) (4 ∷ 1 ∷ [])) (3 ∷ 0 ∷ 0 ∷ 0 ∷ 0 ∷ 0 ∷ 0 ∷ [])
    ∷ checks (named (0x1A ∷ []) (0 ∷ 0 ∷ [])) (3 ∷ 0 ∷ 0 ∷ 0 ∷ 0 ∷ 0 ∷ 0 ∷ [])
    ∷ checks (headed (nulls 17) (0 ∷ []) (nulls 20) (0 ∷ 0 ∷ []) (20 ∷ 0 ∷ 0 ∷ 0 ∷ []) 0 []) (4 ∷ 0 ∷ 0 ∷ 0 ∷ 0 ∷ 0 ∷ 0 ∷ [])
    ∷ checks (headed extended (0x1A ∷ []) (nulls 20) (4 ∷ 1 ∷ []) (21 ∷ 0 ∷ 0 ∷ 0 ∷ []) 0 (nulls 1)) (4 ∷ 0 ∷ 0 ∷ 0 ∷ 0 ∷ 0 ∷ 0 ∷ [])
    -- instruments of 3 bytes; of I = 3; of I = 5 in 4 bytes; of I = 40 in 28, and 17 samples; of 17 samples; and of 16
    ∷ checks (small stripped 1 ++ (4 ∷ 0 ∷ 0 ∷ [])) (1 ∷ 90 ∷ 0 ∷ 0 ∷ 0 ∷ 0 ∷ 0 ∷ [])
    ∷ checks (small stripped 1 ++ (3 ∷ 0 ∷ 0 ∷ 0 ∷ [])) (10 ∷ 90 ∷ 0 ∷ 0 ∷ 0 ∷ 0 ∷ 0 ∷ [])
    ∷ checks (small stripped 1 ++ (5 ∷ 0 ∷ 0 ∷ 0 ∷ [])) (1 ∷ 90 ∷ 0 ∷ 0 ∷ 0 ∷ 0 ∷ 0 ∷ [])
    ∷ checks (small stripped 1 ++ counted 40 17) (1 ∷ 90 ∷ 0 ∷ 0 ∷ 0 ∷ 0 ∷ 0 ∷ [])
    ∷ checks (small stripped 1 ++ counted 28 17) (10 ∷ 90 ∷ 0 ∷ 0 ∷ 0 ∷ 0 ∷ 0 ∷ [])
    ∷ checks (small stripped 1 ++ counted 28 16) (0 ∷ 0 ∷ 118 ∷ 1 ∷ 1 ∷ 1 ∷ 16 ∷ [])
    -- the count at offset I reads as 0 ("greater than" is a slip)
    ∷ checks (small stripped 1 ++ counted 27 16) (0 ∷ 0 ∷ 117 ∷ 1 ∷ 1 ∷ 1 ∷ 0 ∷ [])
    -- with H = 0 the headers stand at one place, and are handed over one by one
    ∷ hands (small stripped 1 ++ counted 28 2) 0 (gives (stands pattern_header 81))
    ∷ hands (small stripped 1 ++ counted 28 2) 1 (gives (stands instrument 90))
    ∷ hands (small stripped 1 ++ counted 28 2) 2 (gives (stands sample_header 118))
    ∷ hands (small stripped 1 ++ counted 28 2) 3 (gives (stands sample_header 118))
    ∷ hands (small stripped 1 ++ counted 28 2) 4 (gives ended)
    -- the file tells the kind, not an instrument
    ∷ hands (small stripped 1 ++ noted) 1 (gives (stands instrument 90))
    -- what holds of samples holds of those whose header is cut: ADPCM data; 12 of them at 16 bits; an odd loop at 16 bits, and an even one
    ∷ checks (small stripped 1 ++ one_value 0) (0 ∷ 0 ∷ 155 ∷ 1 ∷ 1 ∷ 1 ∷ 1 ∷ [])
    ∷ presses (small stripped 1 ++ one_value 0) (small stripped 1 ++ one_value 0)
    ∷ checks (small stripped 1 ++ one_value 16) (12 ∷ 120 ∷ 0 ∷ 0 ∷ 0 ∷ 0 ∷ 0 ∷ [])
    ∷ checks (small stripped 1 ++ looped 1 2) (13 ∷ 120 ∷ 0 ∷ 0 ∷ 0 ∷ 0 ∷ 0 ∷ [])
    ∷ checks (small stripped 1 ++ looped 0 3) (13 ∷ 120 ∷ 0 ∷ 0 ∷ 0 ∷ 0 ∷ 0 ∷ [])
    ∷ checks (small stripped 1 ++ looped 2 2) (0 ∷ 0 ∷ 139 ∷ 1 ∷ 1 ∷ 1 ∷ 1 ∷ [])
    -- the smallest H, then the smallest I
    ∷ checks (small stripped 1 ++ five_longer) (0 ∷ 0 ∷ 133 ∷ 1 ∷ 1 ∷ 1 ∷ 1 ∷ [])
    ∷ presses (small stripped 1 ++ five_longer) (small stripped 1 ++ five_bytes)
    ∷ presses (small stripped 1 ++ counted 28 0) (small stripped 1 ++ no_bytes)
    -- both ways, without a tracker name
    ∷ converts stripped (named (0x1A ∷ []) (4 ∷ 1 ∷ [])) (small stripped 0)
    ∷ converts normal (named (0x1A ∷ []) (4 ∷ 1 ∷ [])) (small normal 0)
    ∷ presses (named (0 ∷ []) (0 ∷ 0 ∷ [])) (small stripped 0)
    ∷ presses (named (0x1A ∷ []) (4 ∷ 1 ∷ [])) (named (0x1A ∷ []) (4 ∷ 1 ∷ []))
    ∷ converts stripped (small normal 0) (small stripped 0)
    ∷ converts normal (small stripped 0) (small normal 0)
    ∷ converts stripped (small normal 1 ++ five_normal) (small stripped 1 ++ five_bytes)
    ∷ converts normal (small stripped 1 ++ five_bytes) (small normal 1 ++ five_normal)
    ∷ []
