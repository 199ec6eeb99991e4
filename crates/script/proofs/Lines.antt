-- Laws of a whole line: the fields after the word are read one by one, and give what the grammar says.
-- Assumes nothing.
use Prim.Native.Nat.{ℕ, suc, ◌≤◌, ◌<◌}
use native.Mathlib.Omega.{arith}
use mathlib.Core.Bool.{Bool, true, false, cond, ◌&&◌}
use mathlib.Core.List.{List, [], ◌∷◌, ◌++◌}
use mathlib.Core.Path.{◌≡◌, refl, sym, ap, subst, ◌∙◌}
use lib.ListN.{length, drop, drop_of_length-le, length-append}
use lib.Seq.{drop-cons}
use lib.Dec.{leb, eqb}
use borrow.Author.Tests.{le-leb, lt-leb}
use Rattle.std.specs.Prelude.{Option, None, Some}
use Rattle.std.specs.List.{slice_split, onto_first}
use Rattle.std.proofs.lemmas.Iterator.{YieldsList}
use Rattle.std.proofs.lemmas.Iterator.Consumers.{YieldsList-turn, YieldsList-end}
use Rattle.std.proofs.Common.{Bor}
use Rattle.std.specs.Iterator.{Yields}
use Rattle.cells.proofs.Cases.{test}
use Rattle.script.specs.Grammar.{pieces, in_front, every, value_of, is_number, is_word, word_number, numbers_of, line_of, read_line}
use Rattle.script.specs.Steps.{given, number_field, word_field, onto, fields_from, line_with}
use Rattle.script.specs.declared.reading.Numbers.{Numbers}
use Rattle.script.specs.declared.reading.Numbers.TheVariants as numbers

front_same : (b : ℕ) (ps : List (List ℕ)) → in_front b ps ≡ onto_first b ps
unfolding in_front
front_same b [] = refl
front_same b (p ∷ ps) = refl

-- The pieces are what the library's `split` cuts.
pub pieces_split : (sep : ℕ) (s : List ℕ) → pieces sep s ≡ slice_split (λ b. eqb b sep) s
unfolding pieces
pieces_split sep [] = refl
pieces_split sep (b ∷ s) = rw (front_same b (pieces sep s), pieces_split sep s)

-- A field that is read has passed its test, and the value is its own.
given-value : (t : Bool) (x v : ℕ) → given t x ≡ Some v → (t ≡ true) × (v ≡ x)
unfolding given
given-value true x v e = (refl, cc)
given-value false x v e = cc

given-none : (t : Bool) (x : ℕ) → given t x ≡ None → t ≡ false
unfolding given
given-none true x e = cc
given-none false x e = refl

-- Once there are none, no field brings any.
pub fields-lost : (fs : List (List ℕ)) → fields_from None fs ≡ None
unfolding fields_from onto
fields-lost [] = refl
fields-lost (f ∷ fs) = test (is_number f) (λ p. rw p (fields-lost fs)) (λ p. rw p (fields-lost fs))

-- A field that is no number, or that comes after three, makes the line bad; any other goes to those before.
pub fields-bad : (n : Option Numbers) (f : List ℕ) (fs : List (List ℕ)) → number_field f ≡ None → fields_from n (f ∷ fs) ≡ None
unfolding fields_from number_field
fields-bad n f fs e = rw (given-none (is_number f) (value_of f) e) (fields-lost fs)

pub fields-more :
    (n : Option Numbers) (f : List ℕ) (fs : List (List ℕ)) (v : ℕ)
    → number_field f ≡ Some v
    → fields_from n (f ∷ fs) ≡ fields_from (onto n v) fs
unfolding fields_from number_field
fields-more n f fs v e =
    let g = given-value (is_number f) (value_of f) v e in
    rw (g.0, g.1)

-- There is no fourth number.
fields-full : (a b c : ℕ) (f : List ℕ) (fs : List (List ℕ)) → fields_from (Some (numbers.Three a b c)) (f ∷ fs) ≡ None
unfolding fields_from onto
fields-full a b c f fs = test (is_number f) (λ p. rw p (fields-lost fs)) (λ p. rw p (fields-lost fs))

-- The fields read one by one are 0 to 3 numbers, or the line is bad.
pub fields-all :
    (ns : List (List ℕ))
    → fields_from (Some numbers.Zero) ns ≡ cond (leb (length ns) 3 && every is_number ns) (Some (numbers_of ns)) None
unfolding fields_from onto every numbers_of
fields-all [] = refl
fields-all (f ∷ []) = test (is_number f) (λ p. rw p) (λ p. rw p)
fields-all (f ∷ (g ∷ [])) =
    test (is_number f)
    (λ p. test (is_number g) (λ q. rw (p, q)) (λ q. rw (p, q)))
    (λ p. rw p (fields-lost (g ∷ [])))
fields-all (f ∷ (g ∷ (h ∷ []))) =
    test (is_number f)
    (λ p.
    test (is_number g)
    (λ q. test (is_number h) (λ r. rw (p, q, r)) (λ r. rw (p, q, r)))
    (λ q. rw (p, q) (fields-lost (h ∷ []))))
    (λ p. rw p (fields-lost (g ∷ (h ∷ []))))
fields-all (f ∷ (g ∷ (h ∷ (k ∷ ns)))) =
    rw (lt-leb (suc (suc (suc (suc (length ns))))) 3 (omega arith))
    (test (is_number f)
    (λ p.
    test (is_number g)
    (λ q.
    test (is_number h)
    (λ r. rw (p, q, r) (fields-full (value_of f) (value_of g) (value_of h) k ns))
    (λ r. rw (p, q, r) (fields-lost (k ∷ ns))))
    (λ q. rw (p, q) (fields-lost (h ∷ (k ∷ ns)))))
    (λ p. rw p (fields-lost (g ∷ (h ∷ (k ∷ ns))))))

-- A line of at most 128 bytes is its first field and those after it: a bad word, or a word and what follows.
pub read-long : (s : List ℕ) → 128 < length s → read_line s ≡ None
unfolding read_line
read-long s h = rw (lt-leb (length s) 128 h)

pub read-bad :
    (s f : List ℕ) (fs : List (List ℕ))
    → length s ≤ 128
    → slice_split (λ b. eqb b 32) s ≡ f ∷ fs
    → word_field f ≡ None
    → read_line s ≡ None
unfolding read_line line_of word_field
read-bad s f fs h n e = rw (le-leb (length s) 128 h, pieces_split 32 s, n, given-none (is_word f) (word_number f) e)

pub read_word :
    (s f : List ℕ) (fs : List (List ℕ)) (w : ℕ)
    → length s ≤ 128
    → slice_split (λ b. eqb b 32) s ≡ f ∷ fs
    → word_field f ≡ Some w
    → read_line s ≡ line_with w (fields_from (Some numbers.Zero) fs)
unfolding read_line line_of word_field line_with
read_word s f fs w h n e =
    let g = given-value (is_word f) (word_number f) w e in
    rw (le-leb (length s) 128 h, pieces_split 32 s, n, g.0, g.1, fields-all fs)
    (test (leb (length fs) 3 && every is_number fs) (λ p. rw p) (λ p. rw p))

-- The fields after the word, k of which are read: the next is no number, it is a fourth one, it goes to those before, or there is none.
module _ (fs : List (List ℕ)) (m : Numbers) (k : ℕ) (i : fields_from (Some m) (drop k fs) ≡ fields_from (Some numbers.Zero) fs) where
  pub rest-bad : (f : List ℕ) (j : ℕ) → drop k fs ≡ f ∷ drop j fs → number_field f ≡ None → fields_from (Some numbers.Zero) fs ≡ None
  rest-bad f j t b = sym i ∙ ap (fields_from (Some m)) t ∙ fields-bad (Some m) f (drop j fs) b

  pub rest_more :
      (f : List ℕ) (j v : ℕ) (n : Option Numbers)
      → drop k fs ≡ f ∷ drop j fs
      → number_field f ≡ Some v
      → onto (Some m) v ≡ n
      → fields_from n (drop j fs) ≡ fields_from (Some numbers.Zero) fs
  rest_more f j v n t b o =
      ap (λ (x : Option Numbers). fields_from x (drop j fs)) (sym o)
      ∙ sym (fields-more (Some m) f (drop j fs) v b)
      ∙ ap (fields_from (Some m)) (sym t)
      ∙ i

  pub rest-full :
      (f : List ℕ) (j v : ℕ)
      → drop k fs ≡ f ∷ drop j fs
      → number_field f ≡ Some v
      → onto (Some m) v ≡ None
      → fields_from (Some numbers.Zero) fs ≡ None
  rest-full f j v t b o = sym (rest_more f j v None t b o) ∙ fields-lost (drop j fs)

  pub rest_over : drop k fs ≡ [] → fields_from (Some numbers.Zero) fs ≡ Some m
  unfolding fields_from
  rest_over t = sym i ∙ ap (fields_from (Some m)) t

-- The word and the numbers, if there are any such, are the line.
pub read-lost :
    (s f : List ℕ) (fs : List (List ℕ)) (w : ℕ)
    → length s ≤ 128
    → slice_split (λ b. eqb b 32) s ≡ f ∷ fs
    → word_field f ≡ Some w
    → fields_from (Some numbers.Zero) fs ≡ None
    → read_line s ≡ None
unfolding line_with
read-lost s f fs w h n e r = read_word s f fs w h n e ∙ ap (line_with w) r

pub read-whole :
    (s f : List ℕ) (fs : List (List ℕ)) (w : ℕ) (m : Numbers)
    → length s ≤ 128
    → slice_split (λ b. eqb b 32) s ≡ f ∷ fs
    → word_field f ≡ Some w
    → fields_from (Some numbers.Zero) fs ≡ Some m
    → read_line s ≡ Some (record { word = w; numbers = m })
unfolding line_with
read-whole s f fs w m h n e r = read_word s f fs w h n e ∙ ap (line_with w) r

-- What comes after the first of what is yielded.
pub road-next :
    {S A B : Type 0} {steps : S → Option A → S → Type 0} {v : A → B} {s : S} {all : List B} {r : Option A} {t : S}
    → YieldsList steps v s all
    → (x : A)
    → r ≡ Some x
    → steps s r t
    → (all ≡ v x ∷ drop 1 all) × YieldsList steps v t (drop 1 all)
road-next {steps = steps} {s = s} {all = all} {t = t} e x q p = next e x (subst (λ o. steps s o t) q p)
  where
    next :
        {S A B : Type 0} {steps : S → Option A → S → Type 0} {v : A → B} {s : S} {all : List B} {t : S}
        → YieldsList steps v s all
        → (x : A)
        → steps s (Some x) t
        → (all ≡ v x ∷ drop 1 all) × YieldsList steps v t (drop 1 all)
    next {all = []} {t = t} e x p = absurd (e.runs x t p)
    next {all = y ∷ ys} {t = t} e x p = let k = e.runs.1 x t p in (ap (λ z. z ∷ ys) (sym k.0), record { runs = k.1 })

-- A turn of a loop over fields: the field stands before those that are still to come.
pub fields-turn :
    {S : Type 0} {steps : S → Option (Bor (List ℕ)) → S → Type 0} {s t : S} {fs : List (List ℕ)}
    → YieldsList steps (λ x. x.now) s fs
    → (xs : List (Bor (List ℕ)))
    → Yields steps s xs t
    → (r : Option (Bor (List ℕ))) (u : S) (x : Bor (List ℕ))
    → r ≡ Some x
    → steps t r u
    → drop (length xs) fs ≡ x.now ∷ drop (length (xs ++ (x ∷ []))) fs
fields-turn {t = t} {fs = fs} e xs y r u x is p =
    let h = YieldsList-turn e xs t y r u x is p in
    let n : length (xs ++ (x ∷ [])) ≡ suc (length xs) = omega (arith, length-append xs (x ∷ [])) in
    drop-cons fs (length xs) x.now h.0 ∙ rw (n, ← h.1)

-- Its end: none are to come.
pub fields-end :
    {S : Type 0} {steps : S → Option (Bor (List ℕ)) → S → Type 0} {s t : S} {fs : List (List ℕ)}
    → YieldsList steps (λ x. x.now) s fs
    → (xs : List (Bor (List ℕ)))
    → Yields steps s xs t
    → (r : Option (Bor (List ℕ))) (u : S)
    → r ≡ None
    → steps t r u
    → drop (length xs) fs ≡ []
fields-end {t = t} {fs = fs} e xs y r u is p =
    let h = YieldsList-end e xs t y r u is p in
    drop_of_length-le fs {i = length xs} (omega arith)
