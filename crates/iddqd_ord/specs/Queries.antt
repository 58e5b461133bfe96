-- What queries of several parts, of lists and of prefixes seek, and that their comparisons rise with the keys.
use Rattle.std.specs.Prelude.{◌≡◌, Bool, List, [], ◌∷◌, Option, Some, None, length, take}
use Rattle.std.proofs.Common.{refl, sym, ap, ◌∙◌}
use Rattle.std.proofs.lemmas.Bool.{false≢true}
use Rattle.std.specs.Cmp.{IsTotalOrder, eq_by_cmp_equiv}
use Rattle.std.specs.Cmp.Lexicographic.{slice_cmp, lists_total, lists_ties}
use Rattle.std.specs.List.{starts_with}
use Rattle.std.specs.Option.{option_cmp}
use Rattle.std.specs.Ordering.{is_lt, is_eq, is_gt, ordering_then, eq_by_cmp}
use Rattle.std.specs.declared.cmp.Ordering.{Ordering}
use Rattle.std.specs.declared.cmp.Ordering.TheVariants.{Less, Equal, Greater}
use Rattle.iddqd_ord.specs.Ordered.{IsRising, IsRising-key, IsSeeking}

-- Two comparisons, one after the other. `a` and `b` compare the parts of two keys, `fx` and `gx` the parts of the one with
-- what is sought, and `fy` and `gy` those of the other.
then_less : (a b fx gx fy gy : Ordering) → (a ≡ Less → fy ≡ Less → fx ≡ Less) → (a ≡ Less → fy ≡ Equal → fx ≡ Less) → (a ≡ Equal → fx ≡ fy)
    → (b ≡ Less → gy ≡ Less → gx ≡ Less) → ordering_then a b ≡ Less → ordering_then fy gy ≡ Less → ordering_then fx gx ≡ Less
then_less Less b fx gx Less gy far near same next lt e = ap (λ (o : Ordering). ordering_then o gx) (far refl refl)
then_less Less b fx gx Equal gy far near same next lt e = ap (λ (o : Ordering). ordering_then o gx) (near refl refl)
then_less Less b fx gx Greater gy far near same next lt e = absurd (false≢true (ap is_lt e))
then_less Equal b fx gx Less gy far near same next lt e = ap (λ (o : Ordering). ordering_then o gx) (same refl)
then_less Equal b fx gx Equal gy far near same next lt e = ap (λ (o : Ordering). ordering_then o gx) (same refl) ∙ next lt e
then_less Equal b fx gx Greater gy far near same next lt e = absurd (false≢true (ap is_lt e))
then_less Greater b fx gx fy gy far near same next lt e = absurd (false≢true (ap is_lt lt))

then_greater : (a b fx gx fy gy : Ordering) → (a ≡ Less → fx ≡ Greater → fy ≡ Greater) → (a ≡ Less → fx ≡ Equal → fy ≡ Greater) → (a ≡ Equal → fx ≡ fy)
    → (b ≡ Less → gx ≡ Greater → gy ≡ Greater) → ordering_then a b ≡ Less → ordering_then fx gx ≡ Greater → ordering_then fy gy ≡ Greater
then_greater Less b Greater gx fy gy far near same next lt e = ap (λ (o : Ordering). ordering_then o gy) (far refl refl)
then_greater Less b Equal gx fy gy far near same next lt e = ap (λ (o : Ordering). ordering_then o gy) (near refl refl)
then_greater Less b Less gx fy gy far near same next lt e = absurd (false≢true (ap is_gt e))
then_greater Equal b Greater gx fy gy far near same next lt e = ap (λ (o : Ordering). ordering_then o gy) (sym (same refl))
then_greater Equal b Equal gx fy gy far near same next lt e = ap (λ (o : Ordering). ordering_then o gy) (sym (same refl)) ∙ next lt e
then_greater Equal b Less gx fy gy far near same next lt e = absurd (false≢true (ap is_gt e))
then_greater Greater b fx gx fy gy far near same next lt e = absurd (false≢true (ap is_lt lt))

then_before : (a b fx gx fy gy : Ordering) → (a ≡ Less → fy ≡ Equal → fx ≡ Less) → (a ≡ Equal → fx ≡ fy)
    → (b ≡ Less → gy ≡ Equal → gx ≡ Less) → ordering_then a b ≡ Less → ordering_then fy gy ≡ Equal → ordering_then fx gx ≡ Less
then_before Less b fx gx Equal gy near same next lt e = ap (λ (o : Ordering). ordering_then o gx) (near refl refl)
then_before Equal b fx gx Equal gy near same next lt e = ap (λ (o : Ordering). ordering_then o gx) (same refl) ∙ next lt e
then_before Greater b fx gx Equal gy near same next lt e = absurd (false≢true (ap is_lt lt))
then_before a b fx gx Less gy near same next lt e = absurd (false≢true (ap is_eq e))
then_before a b fx gx Greater gy near same next lt e = absurd (false≢true (ap is_eq e))

then_after : (a b fx gx fy gy : Ordering) → (a ≡ Less → fx ≡ Equal → fy ≡ Greater) → (a ≡ Equal → fx ≡ fy)
    → (b ≡ Less → gx ≡ Equal → gy ≡ Greater) → ordering_then a b ≡ Less → ordering_then fx gx ≡ Equal → ordering_then fy gy ≡ Greater
then_after Less b Equal gx fy gy near same next lt e = ap (λ (o : Ordering). ordering_then o gy) (near refl refl)
then_after Equal b Equal gx fy gy near same next lt e = ap (λ (o : Ordering). ordering_then o gy) (sym (same refl)) ∙ next lt e
then_after Greater b Equal gx fy gy near same next lt e = absurd (false≢true (ap is_lt lt))
then_after a b Less gx fy gy near same next lt e = absurd (false≢true (ap is_eq e))
then_after a b Greater gx fy gy near same next lt e = absurd (false≢true (ap is_eq e))

then_same : (a b fx gx fy gy : Ordering) → (a ≡ Equal → fx ≡ fy) → (b ≡ Equal → gx ≡ gy) → ordering_then a b ≡ Equal → ordering_then fx gx ≡ ordering_then fy gy
then_same Equal b fx gx fy gy first second e = ap (λ (o : Ordering). ordering_then o gx) (first refl) ∙ ap (ordering_then fy) (second e)
then_same Less b fx gx fy gy first second e = absurd (false≢true (ap is_eq e))
then_same Greater b fx gx fy gy first second e = absurd (false≢true (ap is_eq e))

module _ {T K : Type 0} {cmp : K → K → Ordering} (part : T → K) {compare : K → Ordering} where
  -- what rises with a part of the keys
  pub IsRising-part : IsRising cmp (λ k. k) compare → IsRising (λ x y. cmp (part x) (part y)) (λ k. k) (λ x. compare (part x))
  IsRising-part r = record {
    less = λ x y. r.less (part x) (part y);
    greater = λ x y. r.greater (part x) (part y);
    before = λ x y. r.before (part x) (part y);
    after = λ x y. r.after (part x) (part y);
    same = λ x y. r.same (part x) (part y);
  }

  pub IsSeeking-part : IsSeeking cmp (λ k. k) compare → IsSeeking (λ x y. cmp (part x) (part y)) (λ k. k) (λ x. compare (part x))
  IsSeeking-part s = record {
    less = λ x y. s.less (part x) (part y);
    greater = λ x y. s.greater (part x) (part y);
    same = λ x y. s.same (part x) (part y);
  }

module _ {T : Type 0} {first second : T → T → Ordering} {f g : T → Ordering} where
  -- two parts are sought
  pub IsRising-then : IsRising first (λ k. k) f → IsRising second (λ k. k) g → IsRising (λ x y. ordering_then (first x y) (second x y)) (λ k. k) (λ k. ordering_then (f k) (g k))
  IsRising-then r s = record {
    less = λ x y. then_less (first x y) (second x y) (f x) (g x) (f y) (g y) (r.less x y) (r.before x y) (r.same x y) (s.less x y);
    greater = λ x y. then_greater (first x y) (second x y) (f x) (g x) (f y) (g y) (r.greater x y) (r.after x y) (r.same x y) (s.greater x y);
    before = λ x y. then_before (first x y) (second x y) (f x) (g x) (f y) (g y) (r.before x y) (r.same x y) (s.before x y);
    after = λ x y. then_after (first x y) (second x y) (f x) (g x) (f y) (g y) (r.after x y) (r.same x y) (s.after x y);
    same = λ x y. then_same (first x y) (second x y) (f x) (g x) (f y) (g y) (r.same x y) (s.same x y);
  }

  -- one first part and several second parts are sought
  pub IsSeeking-then : IsRising first (λ k. k) f → IsSeeking second (λ k. k) g → IsSeeking (λ x y. ordering_then (first x y) (second x y)) (λ k. k) (λ k. ordering_then (f k) (g k))
  IsSeeking-then r s = record {
    less = λ x y. then_less (first x y) (second x y) (f x) (g x) (f y) (g y) (r.less x y) (r.before x y) (r.same x y) (s.less x y);
    greater = λ x y. then_greater (first x y) (second x y) (f x) (g x) (f y) (g y) (r.greater x y) (r.after x y) (r.same x y) (s.greater x y);
    same = λ x y. then_same (first x y) (second x y) (f x) (g x) (f y) (g y) (r.same x y) (s.same x y);
  }

module _ {T : Type 0} {first : T → T → Ordering} (second : T → T → Ordering) {f : T → Ordering} where
  -- first parts are sought, and any second part
  pub IsSeeking-first : IsSeeking first (λ k. k) f → IsSeeking (λ x y. ordering_then (first x y) (second x y)) (λ k. k) f
  IsSeeking-first s = record {
    less = λ x y lt e. lower x y (first x y) refl lt e;
    greater = λ x y lt e. higher x y (first x y) refl lt e;
    same = λ x y e. alike x y (first x y) refl e;
  }
    where
      lower : (x y : T) (c : Ordering) → first x y ≡ c → ordering_then c (second x y) ≡ Less → f y ≡ Less → f x ≡ Less
      lower x y Less is lt e = s.less x y is e
      lower x y Equal is lt e = s.same x y is ∙ e
      lower x y Greater is lt e = absurd (false≢true (ap is_lt lt))

      higher : (x y : T) (c : Ordering) → first x y ≡ c → ordering_then c (second x y) ≡ Less → f x ≡ Greater → f y ≡ Greater
      higher x y Less is lt e = s.greater x y is e
      higher x y Equal is lt e = sym (s.same x y is) ∙ e
      higher x y Greater is lt e = absurd (false≢true (ap is_lt lt))

      alike : (x y : T) (c : Ordering) → first x y ≡ c → ordering_then c (second x y) ≡ Equal → f x ≡ f y
      alike x y Less is e = absurd (false≢true (ap is_eq e))
      alike x y Equal is e = s.same x y is
      alike x y Greater is e = absurd (false≢true (ap is_eq e))

module _ {K : Type 0} where
  -- `none_side` compares a key that may be absent with none, which comes first.
  -- Example: For no key it is `Equal`, and for any other `Greater`.
  abbrev pub none_side : Option K → Ordering
  none_side None = Equal
  none_side (Some k) = Greater

  -- `some_side` compares a key that may be absent with what is sought, which is there.
  -- Example: For the comparison with 5 it is `Less` for no key, and `Equal` for `Some 5`.
  abbrev pub some_side : (K → Ordering) → Option K → Ordering
  some_side compare None = Less
  some_side compare (Some k) = compare k

module _ {Q K : Type 0} (ask : Q → K → Ordering) where
  -- `option_side` compares a key that may be absent with what is sought, which may be none.
  -- Example: For the query `Some 5` and no key it is `Less`.
  abbrev pub option_side : Option Q → Option K → Ordering
  option_side None k = none_side k
  option_side (Some q) k = some_side (ask q) k

  -- `list_side` compares the keys of a list with queries, one by one. The first that differs decides, and else the lengths do.
  -- Example: For the queries 3, 5 and the keys 3, 4 it is `Less`.
  abbrev pub list_side : List Q → List K → Ordering
  list_side qs ks = slice_cmp (λ k q. ask q k) ks qs

module _ {Q K : Type 0} {cmp : K → K → Ordering} {ask : Q → K → Ordering} (rises : (q : Q) → IsRising cmp (λ k. k) (ask q)) where
  pub IsRising-option : (o : Option Q) → IsRising (option_cmp cmp) (λ k. k) (option_side ask o)
  IsRising-option o = record { less = less o; greater = greater o; before = before o; after = after o; same = same o }
    where
      less : (o : Option Q) (x y : Option K) → option_cmp cmp x y ≡ Less → option_side ask o y ≡ Less → option_side ask o x ≡ Less
      less None x None lt e = absurd (false≢true (ap is_lt e))
      less None x (Some y) lt e = absurd (false≢true (ap is_lt e))
      less (Some q) None y lt e = refl
      less (Some q) (Some x) None lt e = absurd (false≢true (ap is_lt lt))
      less (Some q) (Some x) (Some y) lt e = (rises q).less x y lt e

      greater : (o : Option Q) (x y : Option K) → option_cmp cmp x y ≡ Less → option_side ask o x ≡ Greater → option_side ask o y ≡ Greater
      greater None x None lt e = absurd (never x lt)
        where
          never : (x : Option K) → option_cmp cmp x None ≡ Less → ⊥
          never None lt = false≢true (ap is_lt lt)
          never (Some x) lt = false≢true (ap is_lt lt)
      greater None x (Some y) lt e = refl
      greater (Some q) None y lt e = absurd (false≢true (ap is_gt e))
      greater (Some q) (Some x) None lt e = absurd (false≢true (ap is_lt lt))
      greater (Some q) (Some x) (Some y) lt e = (rises q).greater x y lt e

      before : (o : Option Q) (x y : Option K) → option_cmp cmp x y ≡ Less → option_side ask o y ≡ Equal → option_side ask o x ≡ Less
      before None None None lt e = absurd (false≢true (ap is_lt lt))
      before None (Some x) None lt e = absurd (false≢true (ap is_lt lt))
      before None x (Some y) lt e = absurd (false≢true (ap is_eq e))
      before (Some q) None y lt e = refl
      before (Some q) (Some x) None lt e = absurd (false≢true (ap is_lt lt))
      before (Some q) (Some x) (Some y) lt e = (rises q).before x y lt e

      after : (o : Option Q) (x y : Option K) → option_cmp cmp x y ≡ Less → option_side ask o x ≡ Equal → option_side ask o y ≡ Greater
      after None None None lt e = absurd (false≢true (ap is_lt lt))
      after None (Some x) y lt e = absurd (false≢true (ap is_eq e))
      after None None (Some y) lt e = refl
      after (Some q) None y lt e = absurd (false≢true (ap is_eq e))
      after (Some q) (Some x) None lt e = absurd (false≢true (ap is_lt lt))
      after (Some q) (Some x) (Some y) lt e = (rises q).after x y lt e

      same : (o : Option Q) (x y : Option K) → option_cmp cmp x y ≡ Equal → option_side ask o x ≡ option_side ask o y
      same o None None e = refl
      same o None (Some y) e = absurd (false≢true (ap is_eq e))
      same o (Some x) None e = absurd (false≢true (ap is_eq e))
      same None (Some x) (Some y) e = refl
      same (Some q) (Some x) (Some y) e = (rises q).same x y e

  pub IsRising-list : (qs : List Q) → IsRising (slice_cmp cmp) (λ k. k) (list_side ask qs)
  IsRising-list qs = record { less = less qs; greater = greater qs; before = before qs; after = after qs; same = same qs }
    where
      less : (qs : List Q) (xs ys : List K) → slice_cmp cmp xs ys ≡ Less → list_side ask qs ys ≡ Less → list_side ask qs xs ≡ Less
      less [] xs [] lt e = absurd (false≢true (ap is_lt e))
      less [] xs (y ∷ ys) lt e = absurd (false≢true (ap is_lt e))
      less (q ∷ qs) [] ys lt e = refl
      less (q ∷ qs) (x ∷ xs) [] lt e = absurd (false≢true (ap is_lt lt))
      less (q ∷ qs) (x ∷ xs) (y ∷ ys) lt e =
          let r = rises q in
          then_less (cmp x y) (slice_cmp cmp xs ys) (ask q x) (list_side ask qs xs) (ask q y) (list_side ask qs ys) (r.less x y) (r.before x y) (r.same x y) (less qs xs ys) lt e

      greater : (qs : List Q) (xs ys : List K) → slice_cmp cmp xs ys ≡ Less → list_side ask qs xs ≡ Greater → list_side ask qs ys ≡ Greater
      greater qs [] [] lt e = absurd (false≢true (ap is_lt lt))
      greater qs (x ∷ xs) [] lt e = absurd (false≢true (ap is_lt lt))
      greater [] xs (y ∷ ys) lt e = refl
      greater (q ∷ qs) [] (y ∷ ys) lt e = absurd (false≢true (ap is_gt e))
      greater (q ∷ qs) (x ∷ xs) (y ∷ ys) lt e =
          let r = rises q in
          then_greater (cmp x y) (slice_cmp cmp xs ys) (ask q x) (list_side ask qs xs) (ask q y) (list_side ask qs ys) (r.greater x y) (r.after x y) (r.same x y) (greater qs xs ys) lt e

      before : (qs : List Q) (xs ys : List K) → slice_cmp cmp xs ys ≡ Less → list_side ask qs ys ≡ Equal → list_side ask qs xs ≡ Less
      before qs [] [] lt e = absurd (false≢true (ap is_lt lt))
      before qs (x ∷ xs) [] lt e = absurd (false≢true (ap is_lt lt))
      before [] xs (y ∷ ys) lt e = absurd (false≢true (ap is_eq e))
      before (q ∷ qs) [] (y ∷ ys) lt e = refl
      before (q ∷ qs) (x ∷ xs) (y ∷ ys) lt e =
          let r = rises q in
          then_before (cmp x y) (slice_cmp cmp xs ys) (ask q x) (list_side ask qs xs) (ask q y) (list_side ask qs ys) (r.before x y) (r.same x y) (before qs xs ys) lt e

      after : (qs : List Q) (xs ys : List K) → slice_cmp cmp xs ys ≡ Less → list_side ask qs xs ≡ Equal → list_side ask qs ys ≡ Greater
      after qs [] [] lt e = absurd (false≢true (ap is_lt lt))
      after qs (x ∷ xs) [] lt e = absurd (false≢true (ap is_lt lt))
      after [] xs (y ∷ ys) lt e = refl
      after (q ∷ qs) [] (y ∷ ys) lt e = absurd (false≢true (ap is_eq e))
      after (q ∷ qs) (x ∷ xs) (y ∷ ys) lt e =
          let r = rises q in
          then_after (cmp x y) (slice_cmp cmp xs ys) (ask q x) (list_side ask qs xs) (ask q y) (list_side ask qs ys) (r.after x y) (r.same x y) (after qs xs ys) lt e

      same : (qs : List Q) (xs ys : List K) → slice_cmp cmp xs ys ≡ Equal → list_side ask qs xs ≡ list_side ask qs ys
      same qs [] [] e = refl
      same qs [] (y ∷ ys) e = absurd (false≢true (ap is_eq e))
      same qs (x ∷ xs) [] e = absurd (false≢true (ap is_eq e))
      same [] (x ∷ xs) (y ∷ ys) e = refl
      same (q ∷ qs) (x ∷ xs) (y ∷ ys) e =
          then_same (cmp x y) (slice_cmp cmp xs ys) (ask q x) (list_side ask qs xs) (ask q y) (list_side ask qs ys) ((rises q).same x y) (same qs xs ys) e

-- `prefix_side` compares the first items of a list, as many as the prefix has, with the prefix.
-- Example: For the prefix 3, 5 it is `Equal` at 3, 5, 7, and `Less` at 3.
abbrev pub prefix_side : {K : Type 0} → (K → K → Ordering) → List K → List K → Ordering
prefix_side cmp prefix xs = slice_cmp cmp (take (length prefix) xs) prefix

module _ {K : Type 0} {cmp : K → K → Ordering} (o : IsTotalOrder cmp) where
  pub IsSeeking-prefix : (prefix : List K) → IsSeeking (slice_cmp cmp) (λ k. k) (prefix_side cmp prefix)
  IsSeeking-prefix prefix = record { less = less prefix; greater = greater prefix; same = same prefix }
    where
      rising : (k : K) → IsRising cmp (λ k. k) (λ x. cmp x k)
      rising k = IsRising-key o (λ k. k) k

      less : (ps xs ys : List K) → slice_cmp cmp xs ys ≡ Less → prefix_side cmp ps ys ≡ Less → prefix_side cmp ps xs ≡ Less
      less [] xs ys lt e = absurd (false≢true (ap is_lt e))
      less (p ∷ ps) [] ys lt e = refl
      less (p ∷ ps) (x ∷ xs) [] lt e = absurd (false≢true (ap is_lt lt))
      less (p ∷ ps) (x ∷ xs) (y ∷ ys) lt e =
          let r = rising p in
          then_less (cmp x y) (slice_cmp cmp xs ys) (cmp x p) (prefix_side cmp ps xs) (cmp y p) (prefix_side cmp ps ys) (r.less x y) (r.before x y) (r.same x y) (less ps xs ys) lt e

      greater : (ps xs ys : List K) → slice_cmp cmp xs ys ≡ Less → prefix_side cmp ps xs ≡ Greater → prefix_side cmp ps ys ≡ Greater
      greater [] xs ys lt e = absurd (false≢true (ap is_gt e))
      greater (p ∷ ps) [] ys lt e = absurd (false≢true (ap is_gt e))
      greater (p ∷ ps) (x ∷ xs) [] lt e = absurd (false≢true (ap is_lt lt))
      greater (p ∷ ps) (x ∷ xs) (y ∷ ys) lt e =
          let r = rising p in
          then_greater (cmp x y) (slice_cmp cmp xs ys) (cmp x p) (prefix_side cmp ps xs) (cmp y p) (prefix_side cmp ps ys) (r.greater x y) (r.after x y) (r.same x y) (greater ps xs ys) lt e

      same : (ps xs ys : List K) → slice_cmp cmp xs ys ≡ Equal → prefix_side cmp ps xs ≡ prefix_side cmp ps ys
      same [] xs ys e = refl
      same (p ∷ ps) [] [] e = refl
      same (p ∷ ps) [] (y ∷ ys) e = absurd (false≢true (ap is_eq e))
      same (p ∷ ps) (x ∷ xs) [] e = absurd (false≢true (ap is_eq e))
      same (p ∷ ps) (x ∷ xs) (y ∷ ys) e =
          then_same (cmp x y) (slice_cmp cmp xs ys) (cmp x p) (prefix_side cmp ps xs) (cmp y p) (prefix_side cmp ps ys) ((rising p).same x y) (same ps xs ys) e

  -- the lists that begin with the prefix are those that are sought
  pub prefix_meets : {eq : K → K → Bool} → ((x y : K) → eq x y ≡ eq_by_cmp cmp x y) → (prefix xs : List K) → starts_with eq xs prefix ≡ is_eq (prefix_side cmp prefix xs)
  prefix_meets ties prefix xs =
      lists_ties cmp ties prefix (take (length prefix) xs) ∙ (eq_by_cmp_equiv (lists_total o)).symm prefix (take (length prefix) xs)
