-- The laws of a format, and that formats put together keep them. Assumes nothing.
use Prim.Native.Nat.{ℕ, zero, suc, ◌+◌, ◌*◌, ◌≤◌}
use mathlib.Core.List.{List, [], ◌∷◌, ◌++◌, append_assoc}
use mathlib.Core.Path.{◌≡◌, refl, sym, ap, ap₂, ◌∙◌}
use native.Mathlib.Nat.{add_assoc, add-zero, add_comm, zero-mul, mul-zero, suc-mul, mul-suc}
use native.Mathlib.Omega.{arith}
use lib.ListN.{length, drop, replicate, length-append, length-drop}
use lib.Seq.{drop-append_seam, drop-drop}
use Rattle.xm.specs.Number.{Bytes}
use Rattle.xm.specs.Got.{got, ◌>>=◌}
use Rattle.xm.specs.Format.{Region, Format, joined, flat, over, then, each, each_read, EachGood, All}
use Rattle.xm.specs.Region.{Adjoin}
use Rattle.xm.proofs.Number.{bytes_drop, bytes_nil, bytes_append, Agree, agree_fewer, agree_drop}
use Rattle.xm.proofs.Got.{step, bind_got, got_carry}

pub pair_path : {A B : Type 0} {a c : A} {b d : B} → a ≡ c → b ≡ d → ◌≡◌ {A = A × B} (a, b) (c, d)
pair_path p q = cc

pub cons_path : {A : Type 0} {a c : A} {b d : List A} → a ≡ c → b ≡ d → ◌≡◌ {A = List A} (a ∷ b) (c ∷ d)
cons_path p q = cc

pub joined-append : {A B : Type 0} (f : A → List B) (xs ys : List A) → joined f (xs ++ ys) ≡ joined f xs ++ joined f ys
joined-append f [] ys = refl
joined-append f (x ∷ xs) ys = ap (λ (l : List _). f x ++ l) (joined-append f xs ys) ∙ sym (append_assoc (f x) (joined f xs) (joined f ys))

pub joined_length : {A B : Type 0} (k : ℕ) (f : A → List B) → ((x : A) → length (f x) ≡ k) → (xs : List A) → length (joined f xs) ≡ k * length xs
joined_length k f h [] = sym (mul-zero k)
joined_length k f h (x ∷ xs) =
    length-append (f x) (joined f xs)
    ∙ ap₂ ◌+◌ (h x) (joined_length k f h xs)
    ∙ add_comm k (k * length xs)
    ∙ sym (mul-suc k (length xs))

pub joined-replicate : {A B : Type 0} (f : A → List B) (x : A) (n : ℕ) → length (joined f (replicate n x)) ≡ n * length (f x)
joined-replicate f x zero = sym (zero-mul (length (f x)))
joined-replicate f x (suc n) =
    length-append (f x) (joined f (replicate n x)) ∙ omega (arith, joined-replicate f x n, suc-mul n (length (f x)))

pub flat_append : {A : Type 0} (xss yss : List (List A)) → flat (xss ++ yss) ≡ flat xss ++ flat yss
flat_append xss yss = joined-append (λ xs. xs) xss yss

pub all_append : {A : Type 0} (P : A → Type 0) (xs ys : List A) → All P xs → All P ys → All P (xs ++ ys)
all_append P [] ys p q = q
all_append P (x ∷ xs) ys p q = (p.0, all_append P xs ys p.1 q)

-- What is written is read back, whatever follows it, and all of it is used
pub record ReadsBack {H I A : Type 0} (F : Format H I A) (h : H) (place : ℕ) (x : A) (rest : List ℕ) : Type 0 where
  pub found : I
  pub reads : F.read h place (F.write x ++ rest) ≡ got found (length (F.write x))
  pub same : F.view found ≡ x

pub record Back {H I A : Type 0} (F : Format H I A) (h : H) : Type 0 where
  pub back : (place : ℕ) (x : A) (rest : List ℕ) → F.Good h x → ReadsBack F h place x rest
  pub plain : (x : A) → F.Good h x → Bytes (F.write x)

-- What is read lies inside the bytes; it is good content, and is written in no more bytes than were used
pub record Held {H I A : Type 0} (F : Format H I A) (h : H) (place : ℕ) (s : List ℕ) (i : I) (n : ℕ) : Type 0 where
  pub inside : n ≤ length s
  pub good : F.Good h (F.view i)
  pub short : length (F.write (F.view i)) ≤ n

pub record Keeps {H I A : Type 0} (F : Format H I A) (h : H) : Type 0 where
  pub keeps : (place : ℕ) (s : List ℕ) (i : I) (n : ℕ) → Bytes s → F.read h place s ≡ got i n → Held F h place s i n

-- The regions of what is read adjoin, from where it begins to where it ends
pub record Adjoins {H I A : Type 0} (F : Format H I A) (h : H) : Type 0 where
  pub adjoins : (place : ℕ) (s : List ℕ) (i : I) (n : ℕ) → F.read h place s ≡ got i n → Adjoin place (F.regions i) (place + n)

adjoin_append : (a b e : ℕ) (rs ts : List Region) → Adjoin a rs b → Adjoin b ts e → Adjoin a (rs ++ ts) e
adjoin_append a b e [] ts c d = rw c d
adjoin_append a b e (r ∷ rs) ts c d = (c.0, adjoin_append (r.place + r.size) b e rs ts c.1 d)

-- What follows the bytes used does not matter
pub record Firm {H I A : Type 0} (F : Format H I A) (h : H) : Type 0 where
  pub firm : (place : ℕ) (s t : List ℕ) (i : I) (n : ℕ) → F.read h place s ≡ got i n → Agree n s t → F.read h place t ≡ got i n

-- What is found says of the whole file that it was read from, by absolute places
pub record Tells {H I A : Type 0} (F : Format H I A) (h : H) (P : List ℕ → I → Type 0) : Type 0 where
  pub tells : (place : ℕ) (file : List ℕ) (i : I) (n : ℕ) → Bytes file → F.read h place (drop place file) ≡ got i n → P file i

-- What one reading depends on, from what another does
module _ {H K I A : Type 0} (f : K → H) {F : Format H I A} where
  pub over_back : (k : K) → Back F (f k) → Back (over f F) k
  over_back k b = record {
    back = λ place x rest g. let r = b.back place x rest g in record { found = r.found; reads = r.reads; same = r.same };
    plain = b.plain;
  }

  pub over_keeps : (k : K) → Keeps F (f k) → Keeps (over f F) k
  over_keeps k b = record {
    keeps = λ place s i n p e. let r = b.keeps place s i n p e in record { inside = r.inside; good = r.good; short = r.short };
  }

  pub over_adjoins : (k : K) → Adjoins F (f k) → Adjoins (over f F) k
  over_adjoins k b = record { adjoins = b.adjoins }

  pub over_firm : (k : K) → Firm F (f k) → Firm (over f F) k
  over_firm k b = record { firm = b.firm }

  pub over_tells : (k : K) {P : List ℕ → I → Type 0} → Tells F (f k) P → Tells (over f F) k P
  over_tells k b = record { tells = b.tells }

-- One after the other
module _ {H I A K J B : Type 0} (next : H → A → K) {F : Format H I A} {G : Format K J B} where
  pub then_back : {h : H} → Back F h → ((a : A) → F.Good h a → Back G (next h a)) → Back (then F next G) h
  unfolding ◌>>=◌
  then_back {h} b c = record { back = both; plain = λ x g. bytes_append (b.plain x.0 g.0) ((c x.0 g.0).plain x.1 g.1) }
    where
      both : (place : ℕ) (x : A × B) (rest : List ℕ) → (then F next G).Good h x → ReadsBack (then F next G) h place x rest
      both place x rest g =
          let f = b.back place x.0 (G.write x.1 ++ rest) g.0 in
          let t = (c x.0 g.0).back (place + length (F.write x.0)) x.1 rest g.1 in
          record {
            found = (f.found, t.found);
            reads = rw (append_assoc, f.reads, drop-append_seam, f.same, t.reads, length-append);
            same = pair_path f.same t.same;
          }

  pub then_keeps : {h : H} → Keeps F h → ((a : A) → F.Good h a → Keeps G (next h a)) → Keeps (then F next G) h
  then_keeps {h} b c = record {
    keeps = λ place s v n p e.
        bind_got (F.read h place s) _ e λ i k ei e₁. bind_got (G.read (next h (F.view i)) (place + k) (drop k s)) _ e₁ λ j m ej e₂.
        let w = b.keeps place s i k p ei in
        let z = (c (F.view i) w.good).keeps (place + k) (drop k s) j m (bytes_drop k p) ej in
        got_carry (λ (r : I × J) (t : ℕ). Held (then F next G) h place s r t) e₂
        (record {
          inside = omega (arith, w.inside, z.inside, length-drop k s);
          good = (w.good, z.good);
          short = rw length-append (omega (arith, w.short, z.short));
        });
  }

  pub then_adjoins : {h : H} → Adjoins F h → ((a : A) → Adjoins G (next h a)) → Adjoins (then F next G) h
  then_adjoins {h} b c = record {
    adjoins = λ place s v n e.
        bind_got (F.read h place s) _ e λ i k ei e₁. bind_got (G.read (next h (F.view i)) (place + k) (drop k s)) _ e₁ λ j m ej e₂.
        got_carry (λ (r : I × J) (t : ℕ). Adjoin place ((then F next G).regions r) (place + t)) e₂
        (rw (← add_assoc place k m)
        (adjoin_append place (place + k) (place + k + m) (F.regions i) (G.regions j)
        (b.adjoins place s i k ei) ((c (F.view i)).adjoins (place + k) (drop k s) j m ej)));
  }

  pub then_firm : {h : H} → Firm F h → ((a : A) → Firm G (next h a)) → Firm (then F next G) h
  then_firm {h} b c = record {
    firm = λ place s t v n e a.
        bind_got (F.read h place s) _ e λ i k ei e₁. bind_got (G.read (next h (F.view i)) (place + k) (drop k s)) _ e₁ λ j m ej e₂.
        got_carry (λ (r : I × J) (u : ℕ). Agree u s t → (then F next G).read h place t ≡ got r u) e₂
        (λ a. step _ (b.firm place s t i k ei (agree_fewer a k (omega arith)))
        (step _ ((c (F.view i)).firm (place + k) (drop k s) (drop k t) j m ej (agree_drop a k m (omega arith))) refl)) a;
  }

  pub then_tells : {h : H} {P : List ℕ → I → Type 0} {Q : List ℕ → J → Type 0} → Tells F h P → ((a : A) → Tells G (next h a) Q)
      → Tells (then F next G) h (λ file v. P file v.0 × Q file v.1)
  then_tells {h} {P} {Q} b c = record {
    tells = λ place file v n p e.
        bind_got (F.read h place (drop place file)) _ e λ i k ei e₁.
        bind_got (G.read (next h (F.view i)) (place + k) (drop k (drop place file))) _ e₁ λ j m ej e₂.
        got_carry (λ (r : I × J) (u : ℕ). P file r.0 × Q file r.1) e₂
        (b.tells place file i k p ei, (c (F.view i)).tells (place + k) file j m p (rw (drop-drop k place file) at ej));
  }

-- Each of a list
pub all : {H : Type 0} {P : H → Type 0} → ((h : H) → P h) → (hs : List H) → All P hs
all p [] = tt
all p (h ∷ hs) = (p h, all p hs)

pub all_replicate : {H : Type 0} (P : H → Type 0) (h : H) (n : ℕ) → P h → All P (replicate n h)
all_replicate P h zero p = tt
all_replicate P h (suc n) p = (p, all_replicate P h n p)

module _ {H I A : Type 0} (F : Format H I A) where
  pub each_length : (hs : List H) (xs : List A) → EachGood F hs xs → length xs ≡ length hs
  each_length [] [] g = refl
  each_length [] (x ∷ xs) g = absurd g
  each_length (h ∷ hs) [] g = absurd g
  each_length (h ∷ hs) (x ∷ xs) g = ap suc (each_length hs xs g.1)

  pub each_replicate : (h : H) (x : A) (n : ℕ) → F.Good h x → EachGood F (replicate n h) (replicate n x)
  each_replicate h x zero g = tt
  each_replicate h x (suc n) g = (g, each_replicate h x n g)

  pub read_length : (hs : List H) (place : ℕ) (s : List ℕ) (is : List I) (n : ℕ) → each_read F hs place s ≡ got is n → length is ≡ length hs
  read_length [] place s is n e = got_carry (λ (r : List I) (u : ℕ). length r ≡ 0) e refl
  read_length (h ∷ hs) place s is n e =
      bind_got (F.read h place s) _ e λ i k ei e₁. bind_got (each_read F hs (place + k) (drop k s)) _ e₁ λ js m ej e₂.
      got_carry (λ (r : List I) (u : ℕ). length r ≡ suc (length hs)) e₂ (ap suc (read_length hs (place + k) (drop k s) js m ej))

  each_reads : (hs : List H) → All (Back F) hs → (place : ℕ) (xs : List A) (rest : List ℕ) → EachGood F hs xs → ReadsBack (each F) hs place xs rest
  unfolding ◌>>=◌
  each_reads [] b place [] rest g = record { found = []; reads = refl; same = refl }
  each_reads [] b place (x ∷ xs) rest g = absurd g
  each_reads (h ∷ hs) b place [] rest g = absurd g
  each_reads (h ∷ hs) b place (x ∷ xs) rest g =
      put (b.0.back place x (joined F.write xs ++ rest) g.0) (each_reads hs b.1 (place + length (F.write x)) xs rest g.1)
    where
      put : ReadsBack F h place x (joined F.write xs ++ rest) → ReadsBack (each F) hs (place + length (F.write x)) xs rest
          → ReadsBack (each F) (h ∷ hs) place (x ∷ xs) rest
      put f t = record {
        found = f.found ∷ t.found;
        reads = rw (append_assoc, f.reads, drop-append_seam, t.reads, length-append);
        same = cons_path f.same t.same;
      }

  each_plain : (hs : List H) → All (Back F) hs → (xs : List A) → EachGood F hs xs → Bytes (joined F.write xs)
  each_plain [] b [] g = bytes_nil
  each_plain [] b (x ∷ xs) g = absurd g
  each_plain (h ∷ hs) b [] g = absurd g
  each_plain (h ∷ hs) b (x ∷ xs) g = bytes_append (b.0.plain x g.0) (each_plain hs b.1 xs g.1)

  each_held : (hs : List H) → All (Keeps F) hs → (place : ℕ) (s : List ℕ) (is : List I) (n : ℕ) → Bytes s → each_read F hs place s ≡ got is n
      → Held (each F) hs place s is n
  each_held [] b place s is n p e =
      got_carry (λ (r : List I) (t : ℕ). Held (each F) [] place s r t) e (record { inside = omega arith; good = tt; short = omega arith })
  each_held (h ∷ hs) b place s is n p e =
      bind_got (F.read h place s) _ e λ i k ei e₁. bind_got (each_read F hs (place + k) (drop k s)) _ e₁ λ js m ej e₂.
      let w = b.0.keeps place s i k p ei in
      let z = each_held hs b.1 (place + k) (drop k s) js m (bytes_drop k p) ej in
      got_carry (λ (r : List I) (t : ℕ). Held (each F) (h ∷ hs) place s r t) e₂
      (record {
        inside = omega (arith, w.inside, z.inside, length-drop k s);
        good = (w.good, z.good);
        short = rw length-append (omega (arith, w.short, z.short));
      })

  each_adjoin : (hs : List H) → All (Adjoins F) hs → (place : ℕ) (s : List ℕ) (is : List I) (n : ℕ) → each_read F hs place s ≡ got is n
      → Adjoin place (joined F.regions is) (place + n)
  each_adjoin [] b place s is n e = got_carry (λ (r : List I) (t : ℕ). Adjoin place (joined F.regions r) (place + t)) e (sym (add-zero place))
  each_adjoin (h ∷ hs) b place s is n e =
      bind_got (F.read h place s) _ e λ i k ei e₁. bind_got (each_read F hs (place + k) (drop k s)) _ e₁ λ js m ej e₂.
      got_carry (λ (r : List I) (t : ℕ). Adjoin place (joined F.regions r) (place + t)) e₂
      (rw (← add_assoc place k m)
      (adjoin_append place (place + k) (place + k + m) (F.regions i) (joined F.regions js)
      (b.0.adjoins place s i k ei) (each_adjoin hs b.1 (place + k) (drop k s) js m ej)))

  each_firmly : (hs : List H) → All (Firm F) hs → (place : ℕ) (s t : List ℕ) (is : List I) (n : ℕ) → each_read F hs place s ≡ got is n → Agree n s t
      → each_read F hs place t ≡ got is n
  each_firmly [] b place s t is n e a = e
  each_firmly (h ∷ hs) b place s t is n e a =
      bind_got (F.read h place s) _ e λ i k ei e₁. bind_got (each_read F hs (place + k) (drop k s)) _ e₁ λ js m ej e₂.
      got_carry (λ (r : List I) (u : ℕ). Agree u s t → each_read F (h ∷ hs) place t ≡ got r u) e₂
      (λ a. step _ (b.0.firm place s t i k ei (agree_fewer a k (omega arith)))
      (step _ (each_firmly hs b.1 (place + k) (drop k s) (drop k t) js m ej (agree_drop a k m (omega arith))) refl)) a

  each_told : (P : List ℕ → I → Type 0) (hs : List H) → All (λ (h : H). Tells F h P) hs → (place : ℕ) (file : List ℕ) (is : List I) (n : ℕ)
      → Bytes file → each_read F hs place (drop place file) ≡ got is n → All (P file) is
  each_told P [] b place file is n p e = got_carry (λ (r : List I) (u : ℕ). All (P file) r) e tt
  each_told P (h ∷ hs) b place file is n p e =
      bind_got (F.read h place (drop place file)) _ e λ i k ei e₁. bind_got (each_read F hs (place + k) (drop k (drop place file))) _ e₁ λ js m ej e₂.
      got_carry (λ (r : List I) (u : ℕ). All (P file) r) e₂
      (b.0.tells place file i k p ei, each_told P hs b.1 (place + k) file js m p (rw (drop-drop k place file) at ej))

  pub each_back : (hs : List H) → All (Back F) hs → Back (each F) hs
  each_back hs b = record { back = each_reads hs b; plain = each_plain hs b }

  pub each_keeps : (hs : List H) → All (Keeps F) hs → Keeps (each F) hs
  each_keeps hs b = record { keeps = each_held hs b }

  pub each_adjoins : (hs : List H) → All (Adjoins F) hs → Adjoins (each F) hs
  each_adjoins hs b = record { adjoins = each_adjoin hs b }

  pub each_firm : (hs : List H) → All (Firm F) hs → Firm (each F) hs
  each_firm hs b = record { firm = each_firmly hs b }

  pub each_tells : {P : List ℕ → I → Type 0} (hs : List H) → All (λ (h : H). Tells F h P) hs → Tells (each F) hs (λ file is. All (P file) is)
  each_tells {P} hs b = record { tells = each_told P hs b }

  -- n of one kind
  module _ (n : ℕ) {h : H} where
    pub many_back : Back F h → Back (each F) (replicate n h)
    many_back b = each_back (replicate n h) (all_replicate (Back F) h n b)

    pub many_keeps : Keeps F h → Keeps (each F) (replicate n h)
    many_keeps b = each_keeps (replicate n h) (all_replicate (Keeps F) h n b)

    pub many_adjoins : Adjoins F h → Adjoins (each F) (replicate n h)
    many_adjoins b = each_adjoins (replicate n h) (all_replicate (Adjoins F) h n b)

    pub many_firm : Firm F h → Firm (each F) (replicate n h)
    many_firm b = each_firm (replicate n h) (all_replicate (Firm F) h n b)

    pub many_tells : {P : List ℕ → I → Type 0} → Tells F h P → Tells (each F) (replicate n h) (λ file is. All (P file) is)
    many_tells {P} b = each_tells (replicate n h) (all_replicate (λ (h : H). Tells F h P) h n b)
