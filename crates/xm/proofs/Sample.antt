-- Laws of sample headers and sample data. Assumes nothing.
use Prim.Native.Nat.{ℕ, ◌+◌, ◌≤◌, zero, suc, ◌*◌}
use mathlib.Core.Bool.{true}
use mathlib.Core.List.{List, [], ◌∷◌, ◌++◌, map}
use mathlib.Core.Logic.{◌↔◌}
use mathlib.Core.Path.{◌≡◌, refl, sym, ap, ◌∙◌}
use native.Mathlib.Nat.{zero-mul, suc-mul}
use native.Mathlib.Omega.{arith}
use lib.ListN.{length, take, drop, replicate, length-append, length-take}
use lib.Seq.{length-take-le, take_at}
use Rattle.xm.specs.Number.{part}
use Rattle.xm.specs.Got.{got, refused, AllHold, present, unlike, when, ◌at◌, Got, ◌>>=◌}
use Rattle.xm.specs.Format.{each, All, EachGood, joined}
use Rattle.xm.specs.Sample.{least_head, head_bytes, kind_of, is_wide, adpcm, data_size, head_tests, StretchFound, read_head, head_format}
use Rattle.xm.specs.Sample.{read_data, data_format, SamplesFound, samples_format, cut_head_format, cut_samples_format, smallest_head}
use Rattle.xm.specs.ModuleKind.{padded, trimmed}
use Rattle.xm.specs.Region.{Adjoin}
use Rattle.xm.specs.Demands.{NumbersFit, ThirteenExactly}
use Rattle.xm.proofs.Number.{bytes_take, agree_take}
use Rattle.xm.proofs.Got.{got_never, test_holds, pass, passed, bind_got, got_by, got_value, got_carry}
use Rattle.xm.proofs.Answer.{tests_fail}
use Rattle.xm.proofs.Cut.{padded-length, padded_bytes, padded_all, padded-trimmed, trimmed_le, cut_same}
use Rattle.xm.proofs.Format.{Back, Keeps, Held, Adjoins, Firm, Tells, then_back, then_keeps, then_adjoins, then_firm, then_tells, each_back}
use Rattle.xm.proofs.Format.{each_keeps, each_adjoins, each_firm, each_tells, many_back, many_keeps, many_adjoins, many_firm, many_tells, all}

-- 13, behind 12
module _ (size place : ℕ) (s : List ℕ) (there : size ≤ length s) (narrow : is_wide (head_bytes size s) ≡ true → kind_of (head_bytes size s) ≡ adpcm → ⊥) where
  fits_pass : NumbersFit (head_bytes size s) → AllHold (head_tests place (head_bytes size s))
  fits_pass f = (narrow, (f.0, (f.1, (f.2, ((λ w l. (f.3 w l).0), ((λ w l. (f.3 w l).1), tt))))))

  pass_fits : AllHold (head_tests place (head_bytes size s)) → NumbersFit (head_bytes size s)
  pass_fits t = (t.1.0, t.1.1.0, t.1.1.1.0, λ w l. (t.1.1.1.1.0 w l, t.1.1.1.1.1.0 w l))

  pub thirteen_so : (read_head size place s ≡ refused (13 at place)) ↔ (NumbersFit (head_bytes size s) → ⊥)
  unfolding read_head
  thirteen_so = (
    λ e f. got_never (sym (pass _ (there, fits_pass f) refl) ∙ e),
    λ n.
        test_holds (present size (length s) (1 at place)) _ _ there
        ∙ test_holds (when (is_wide (head_bytes size s)) (unlike adpcm (kind_of (head_bytes size s)) (12 at place))) _ _ narrow
        ∙ tests_fail _ _ (refl, (refl, (refl, (refl, (refl, tt))))) (λ t. n (pass_fits (narrow, t))),
  )

pub thirteen_exactly : ThirteenExactly
thirteen_exactly = thirteen_so

-- What is found of a stretch, at its place of the file
pub record HeadTold (file : List ℕ) (i : StretchFound) : Type 0 where
  pub bytes : i.bytes ≡ head_bytes i.size (drop i.place file)
  pub tests : AllHold (head_tests 0 i.bytes)

pub record DataTold (file : List ℕ) (i : StretchFound) : Type 0 where
  pub bytes : i.bytes ≡ part i.place i.size file
  pub long : length i.bytes ≡ i.size

-- The bytes of a header: those written, all of them or so many that only zeros are cut off
front_bytes : (kept : ℕ) (x rest : List ℕ) → length x ≡ least_head → length (trimmed x) ≤ kept → kept ≤ least_head → head_bytes kept (take kept x ++ rest) ≡ x
front_bytes kept x rest e h l =
    ap (padded least_head) (take_at (take kept x) rest kept (length-take-le kept x (omega (arith, e))))
    ∙ ap (λ (n : ℕ). padded n (take kept x)) (sym e)
    ∙ cut_same x kept h

whole_bytes : (x rest : List ℕ) → length x ≡ least_head → head_bytes least_head (x ++ rest) ≡ x
whole_bytes x rest e = ap (padded least_head) (take_at x rest least_head e) ∙ ap (λ (n : ℕ). padded n x) (sym e) ∙ padded_all x

-- Sample headers
pub head_back : Back head_format least_head
unfolding read_head
head_back = record {
  back = λ place x rest g.
      let e = whole_bytes x rest g.size in
      record {
        found = record { place = place; size = least_head; bytes = head_bytes least_head (x ++ rest) };
        reads = pass _ (omega (arith, length-append x rest, g.size), rw e g.tests) (got_by (sym g.size));
        same = e;
      };
  plain = λ x g. g.plain;
}

pub head_keeps : (size : ℕ) → least_head ≤ size → Keeps head_format size
unfolding read_head
head_keeps size l = record {
  keeps = λ place s i n b e.
      passed _ _ e λ h e.
      let z = padded-length least_head (take size s) in
      got_carry (λ (r : StretchFound) (t : ℕ). Held head_format size place s r t) e
      (record { inside = h.0; good = record { size = z; plain = padded_bytes least_head (bytes_take size b); tests = h.1 }; short = omega arith });
}

pub head_adjoins : (size : ℕ) → Adjoins head_format size
unfolding read_head
head_adjoins size = record {
  adjoins = λ place s i n e. passed _ _ e λ h e. got_carry (λ (r : StretchFound) (t : ℕ). Adjoin place (head_format.regions r) (place + t)) e (refl, refl);
}

pub head_firm : (size : ℕ) → Firm head_format size
unfolding read_head
head_firm size = record {
  firm = λ place s t i n e a.
      passed _ _ e λ h e.
      got_carry (λ (r : StretchFound) (u : ℕ). u ≡ n → read_head size place t ≡ got r u) e
      (λ q.
      let z : head_bytes size s ≡ head_bytes size t = ap (padded least_head) (agree_take a size (omega arith)) in
      pass _ (omega (arith, a.long), rw (← z) h.1) (rw (← z) refl)) refl;
}

pub head_tells : (size : ℕ) → Tells head_format size HeadTold
unfolding read_head
head_tells size = record {
  tells = λ place file i n b e.
      passed _ _ e λ h e. got_carry (λ (r : StretchFound) (u : ℕ). HeadTold file r) e (record { bytes = refl; tests = h.1 });
}

-- Sample headers of which so many bytes are written
pub cut_back : (kept : ℕ) → kept ≤ least_head → Back (cut_head_format kept) kept
unfolding read_head
cut_back kept l = record {
  back = λ place x rest g.
      let z : length (take kept x) ≡ kept = length-take-le kept x (omega (arith, g.good.size)) in
      let e = front_bytes kept x rest g.good.size g.cut l in
      record {
        found = record { place = place; size = kept; bytes = head_bytes kept (take kept x ++ rest) };
        reads = pass _ (omega (arith, length-append (take kept x) rest), rw e g.good.tests) (got_by (sym z));
        same = e;
      };
  plain = λ x g. bytes_take kept g.good.plain;
}

take_le : (kept : ℕ) (x : List ℕ) → length (take kept x) ≤ kept
take_le kept x = omega (arith, length-take kept x)

pub cut_keeps : (size : ℕ) → Keeps (cut_head_format size) size
unfolding read_head
cut_keeps size = record {
  keeps = λ place s i n b e.
      passed _ _ e λ h e.
      let z = padded-length least_head (take size s) in
      got_carry (λ (r : StretchFound) (t : ℕ). Held (cut_head_format size) size place s r t) e
      (record {
        inside = h.0;
        good = record {
          good = record { size = z; plain = padded_bytes least_head (bytes_take size b); tests = h.1 };
          cut = omega (arith, padded-trimmed least_head (take size s), take_le size s);
        };
        short = take_le size (head_bytes size s);
      });
}

-- Sample data
pub data_back : (head : List ℕ) → Back data_format head
unfolding read_data
data_back head = record {
  back = λ place d rest g. record {
    found = record { place = place; size = data_size head; bytes = take (data_size head) (d ++ rest) };
    reads = pass _ (omega (arith, length-append d rest, g.size), tt) (got_by (sym g.size));
    same = take_at d rest (data_size head) g.size;
  };
  plain = λ d g. g.plain;
}

pub data_keeps : (head : List ℕ) → Keeps data_format head
unfolding read_data
data_keeps head = record {
  keeps = λ place s i n b e.
      passed _ _ e λ h e.
      let z : length (take (data_size head) s) ≡ data_size head = length-take-le (data_size head) s h.0 in
      got_carry (λ (r : StretchFound) (t : ℕ). Held data_format head place s r t) e
      (record { inside = h.0; good = record { size = z; plain = bytes_take (data_size head) b }; short = omega arith });
}

pub data_adjoins : (head : List ℕ) → Adjoins data_format head
unfolding read_data
data_adjoins head = record {
  adjoins = λ place s i n e. passed _ _ e λ h e. got_carry (λ (r : StretchFound) (t : ℕ). Adjoin place (data_format.regions r) (place + t)) e (refl, refl);
}

pub data_firm : (head : List ℕ) → Firm data_format head
unfolding read_data
data_firm head = record {
  firm = λ place s t i n e a.
      passed _ _ e λ h e.
      got_carry (λ (r : StretchFound) (u : ℕ). u ≡ n → read_data head place t ≡ got r u) e
      (λ q. pass _ (omega (arith, a.long), tt) (rw (← agree_take a (data_size head) (omega arith)) refl)) refl;
}

pub data_tells : (head : List ℕ) → Tells data_format head DataTold
unfolding read_data
data_tells head = record {
  tells = λ place file i n b e.
      passed _ _ e λ h e.
      got_carry (λ (r : StretchFound) (u : ℕ). DataTold file r) e
      (record { bytes = refl; long = length-take-le (data_size head) (drop place file) h.0 });
}

-- All headers, and then the data of each
pub samples_back : (k : ℕ) → Back samples_format (replicate k least_head)
samples_back k = then_back (λ sizes heads. heads) (many_back head_format k head_back) (λ heads g. each_back data_format heads (all data_back heads))

pub samples_keeps : (k size : ℕ) → least_head ≤ size → Keeps samples_format (replicate k size)
samples_keeps k size l =
    then_keeps (λ sizes heads. heads) (many_keeps head_format k (head_keeps size l)) (λ heads g. each_keeps data_format heads (all data_keeps heads))

pub samples_adjoin : (k size : ℕ) → Adjoins samples_format (replicate k size)
samples_adjoin k size =
    then_adjoins (λ sizes heads. heads) (many_adjoins head_format k (head_adjoins size)) (λ heads. each_adjoins data_format heads (all data_adjoins heads))

pub cut_samples_back : (k kept : ℕ) → kept ≤ least_head → Back (cut_samples_format kept) (replicate k kept)
cut_samples_back k kept l =
    then_back (λ sizes heads. heads) (many_back (cut_head_format kept) k (cut_back kept l)) (λ heads g. each_back data_format heads (all data_back heads))

pub cut_samples_keeps : (k size : ℕ) → Keeps (cut_samples_format size) (replicate k size)
cut_samples_keeps k size =
    then_keeps (λ sizes heads. heads) (many_keeps (cut_head_format size) k (cut_keeps size)) (λ heads g. each_keeps data_format heads (all data_keeps heads))

-- They are read as all others are
heads_alike : (kept place : ℕ) (hs : List ℕ) (s : List ℕ) → (each (cut_head_format kept)).read hs place s ≡ (each head_format).read hs place s
unfolding ◌>>=◌
heads_alike kept place [] s = refl
heads_alike kept place (h ∷ hs) s = go (read_head h place s) (λ n. heads_alike kept (place + n) hs (drop n s))
  where
    go : (g : Got StretchFound) → ((n : ℕ) → (each (cut_head_format kept)).read hs (place + n) (drop n s) ≡ (each head_format).read hs (place + n) (drop n s))
        → ◌≡◌ {A = Got (List StretchFound)} (g >>= (λ (i, n). (each (cut_head_format kept)).read hs (place + n) (drop n s) >>= (λ (is, m). got (i ∷ is) (n + m))))
        (g >>= (λ (i, n). (each head_format).read hs (place + n) (drop n s) >>= (λ (is, m). got (i ∷ is) (n + m))))
    go (got i n) same = ap (λ (g : Got (List StretchFound)). g >>= (λ (is, m). got (i ∷ is) (n + m))) (same n)
    go (refused r) same = refl

pub samples_alike : (kept place : ℕ) (hs : List ℕ) (s : List ℕ) → (cut_samples_format kept).read hs place s ≡ samples_format.read hs place s
samples_alike kept place hs s =
    ap (λ (g : Got (List StretchFound)). g >>=
    (λ (i, n). (each data_format).read (map StretchFound.bytes i) (place + n) (drop n s) >>= (λ (j, m). got (i, j) (n + m))))
    (heads_alike kept place hs s)

-- The smallest H: no more than any that cuts off nothing but zeros, and such a one itself
pub smallest_least : (kept : ℕ) (hs : List ℕ) (heads : List (List ℕ)) → EachGood (cut_head_format kept) hs heads → smallest_head heads ≤ kept
unfolding smallest_head
smallest_least kept [] [] g = omega arith
smallest_least kept [] (x ∷ xs) g = absurd g
smallest_least kept (h ∷ hs) [] g = absurd g
smallest_least kept (h ∷ hs) (x ∷ xs) g = omega (arith, g.0.cut, smallest_least kept hs xs g.1)

pub smallest_fits : (k : ℕ) (heads : List (List ℕ)) → EachGood head_format (replicate k least_head) heads → smallest_head heads ≤ least_head
unfolding smallest_head
smallest_fits zero [] g = omega arith
smallest_fits zero (x ∷ xs) g = absurd g
smallest_fits (suc k) [] g = absurd g
smallest_fits (suc k) (x ∷ xs) g = omega (arith, trimmed_le x, g.0.size, smallest_fits k xs g.1)

pub cut_heads : (k kept : ℕ) (heads : List (List ℕ)) → EachGood head_format (replicate k least_head) heads → smallest_head heads ≤ kept
    → EachGood (cut_head_format kept) (replicate k kept) heads
unfolding smallest_head
cut_heads zero kept [] g h = tt
cut_heads zero kept (x ∷ xs) g h = absurd g
cut_heads (suc k) kept [] g h = absurd g
cut_heads (suc k) kept (x ∷ xs) g h = (record { good = g.0; cut = omega arith }, cut_heads k kept xs g.1 (omega arith))

pub whole_heads : (k kept : ℕ) (heads : List (List ℕ)) → EachGood (cut_head_format kept) (replicate k kept) heads
    → EachGood head_format (replicate (length heads) least_head) heads
whole_heads zero kept [] g = tt
whole_heads zero kept (x ∷ xs) g = absurd g
whole_heads (suc k) kept [] g = absurd g
whole_heads (suc k) kept (x ∷ xs) g = (g.0.good, whole_heads k kept xs g.1)

-- and smaller headers take no more bytes
pub heads_mono : (kept size : ℕ) (heads : List (List ℕ)) → kept ≤ size → length (joined (take kept) heads) ≤ length (joined (take size) heads)
heads_mono kept size [] h = omega arith
heads_mono kept size (x ∷ xs) h = simp length-append (omega (arith, length-take kept x, length-take size x, heads_mono kept size xs h))

pub cut_heads_size : (k kept : ℕ) (heads : List (List ℕ)) → kept ≤ least_head → EachGood (cut_head_format kept) (replicate k kept) heads
    → length (joined (take kept) heads) ≡ k * kept
cut_heads_size zero kept [] l g = sym (zero-mul kept)
cut_heads_size zero kept (x ∷ xs) l g = absurd g
cut_heads_size (suc k) kept [] l g = absurd g
cut_heads_size (suc k) kept (x ∷ xs) l g =
    rw length-append (omega (arith, length-take-le kept x (omega (arith, g.0.good.size)), cut_heads_size k kept xs l g.1, suc-mul k kept))

pub samples_firm : (k size : ℕ) → Firm samples_format (replicate k size)
samples_firm k size =
    then_firm (λ sizes heads. heads) (many_firm head_format k (head_firm size)) (λ heads. each_firm data_format heads (all data_firm heads))

-- each data has the size that its header says
abbrev pub Sized : (heads : List (List ℕ)) → List StretchFound → Type 0
Sized [] [] = Unit {0}
Sized [] (d ∷ ds) = ⊥
Sized (h ∷ hs) [] = ⊥
Sized (h ∷ hs) (d ∷ ds) = (d.size ≡ data_size h) × Sized hs ds

data_sized : (heads : List (List ℕ)) (place : ℕ) (s : List ℕ) (ds : List StretchFound) (n : ℕ) → (each data_format).read heads place s ≡ got ds n
    → Sized heads ds
unfolding read_data
data_sized [] place s ds n e = got_carry (λ (r : List StretchFound) (u : ℕ). Sized [] r) e tt
data_sized (h ∷ hs) place s ds n e =
    bind_got _ _ e λ i k ei e₁. bind_got _ _ e₁ λ js m ej e₂.
    passed _ _ ei λ hi ei.
    got_carry (λ (r : List StretchFound) (u : ℕ). Sized (h ∷ hs) r) e₂
    (ap StretchFound.size (sym (got_value ei)), data_sized hs (place + k) (drop k s) js m ej)

pub record SamplesTold (file : List ℕ) (v : SamplesFound) : Type 0 where
  pub heads : All (HeadTold file) v.0
  pub bytes : All (DataTold file) v.1
  pub sizes : Sized (samples_format.view v).0 v.1

both_tell : (k size : ℕ) → Tells samples_format (replicate k size) (λ file v. All (HeadTold file) v.0 × All (DataTold file) v.1)
both_tell k size =
    then_tells (λ sizes heads. heads) (many_tells head_format k (head_tells size)) (λ heads. each_tells data_format heads (all data_tells heads))

samples_sized : (k size place : ℕ) (s : List ℕ) (v : SamplesFound) (n : ℕ) → samples_format.read (replicate k size) place s ≡ got v n
    → Sized (samples_format.view v).0 v.1
samples_sized k size place s v n e =
    bind_got _ _ e λ i m ei e₁. bind_got _ _ e₁ λ j u ej e₂.
    got_carry (λ (r : SamplesFound) (t : ℕ). Sized (samples_format.view r).0 r.1) e₂ (data_sized ((each head_format).view i) (place + m) (drop m s) j u ej)

pub samples_tell : (k size : ℕ) → Tells samples_format (replicate k size) SamplesTold
samples_tell k size = record {
  tells = λ place file v n b e.
      let t = (both_tell k size).tells place file v n b e in
      record { heads = t.0; bytes = t.1; sizes = samples_sized k size place (drop place file) v n e };
}
