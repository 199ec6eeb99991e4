-- Laws of a text laid over bytes: two texts one after the other are one text, and nothing past the end is touched.
-- Assumes nothing.
use Prim.Native.Nat.{ℕ, suc, ◌+◌, ◌-◌, ◌≤◌, ◌<◌, min}
use native.Mathlib.Omega.{arith}
use native.Mathlib.Numerals.{add-one}
use native.Mathlib.Nat.{add-zero, add-suc, suc-add}
use mathlib.Core.List.{List, [], ◌∷◌, ◌++◌, append-nil, append_assoc}
use mathlib.Core.Path.{◌≡◌, refl, sym, ap, ◌∙◌}
use lib.ListN.{length, take, drop, get_or, set, length-append, take-append-drop, drop_of_length-le}
use lib.Seq.{sets, length-sets, sets-eq, set_out, take-suc, take_at, length-take-le, drop-drop}
use Rattle.cells.proofs.Cases.{at_most?}
use Rattle.script.specs.Answers.{decimal, spaced, Laid}

-- A second text where the first ends.
pub sets-join : (l : List ℕ) (i : ℕ) (xs ys : List ℕ) → sets (sets l i xs) (i + length xs) ys ≡ sets l i (xs ++ ys)
sets-join l i [] ys = rw (add-zero i)
sets-join l i (x ∷ xs) ys = rw (add-suc i (length xs), ← suc-add i (length xs)) (sets-join (set l i x) (suc i) xs ys)

-- Past the end nothing is written.
pub sets-past : (l : List ℕ) (i : ℕ) (ys : List ℕ) → length l ≤ i → sets l i ys ≡ l
sets-past l i [] h = refl
sets-past l i (y ∷ ys) h = rw (set_out l i y h) (sets-past l (suc i) ys (omega arith))

-- The same text by another name.
pub laid_as : (out out' : List ℕ) (at end : ℕ) (xs ys : List ℕ) → Laid out at xs out' end → xs ≡ ys → Laid out at ys out' end
laid_as out out' at end xs ys a e = record { bytes = rw (← e) a.bytes; stop = rw (← e) a.stop }

-- A text laid leaves as many bytes as there were.
pub laid-long : (out out' : List ℕ) (at end : ℕ) (text : List ℕ) → Laid out at text out' end → length out' ≡ length out
laid-long out out' at end text a = ap length a.bytes ∙ length-sets out at text

-- Two texts, the second from where the first ends, are one.
pub laid-join :
    (out out₁ out₂ : List ℕ) (at r s : ℕ) (xs ys : List ℕ)
    → Laid out at xs out₁ r
    → Laid out₁ r ys out₂ s
    → Laid out at (xs ++ ys) out₂ s
laid-join out out₁ out₂ at r s xs ys a b =
    let long : length out₁ ≡ length out = laid-long out out₁ at r xs a in
    record {
      bytes =
          b.bytes
          ∙ at_most? (at + length xs) (length out)
          (λ h. let e : r ≡ at + length xs = omega (arith, a.stop) in rw (e, a.bytes) (sets-join out at xs ys))
          (λ h.
          let p : length out₁ ≤ r = omega (arith, a.stop) in
          let q : length out₁ ≤ at + length xs = omega arith in
          sets-past out₁ r ys p
          ∙ sym (sets-past out₁ (at + length xs) ys q)
          ∙ ap (λ (l : List ℕ). sets l (at + length xs) ys) a.bytes
          ∙ sets-join out at xs ys);
      stop = omega (arith, a.stop, b.stop, length-append xs ys);
    }

-- What stands where one text is copied over a part of the bytes, from `at` up to `end`.
pub laid-part :
    (out : List ℕ) (at : ℕ) (text : List ℕ) (end : ℕ) (part : List ℕ) (k : ℕ)
    → at < end
    → end ≡ min (at + length text) (length out)
    → part ≡ take (end - at) text
    → k ≡ end - at
    → Laid out at text (take at out ++ (part ++ drop k (drop at out))) end
laid-part out at text end part k h m e l = record {
  bytes =
      copied
      ∙ sym (lost (sets out at (take (end - at) text)) (length-sets out at (take (end - at) text)))
      ∙ sets-join out at (take (end - at) text) (drop (end - at) text)
      ∙ ap (sets out at) (take-append-drop (end - at) text);
  stop = m;
}
  where
    fits : length (take (end - at) text) ≡ end - at
    fits = length-take-le (end - at) text (omega arith)

    here : at + length (take (end - at) text) ≡ at + (end - at)
    here = omega (arith, fits)

    copied : take at out ++ (part ++ drop k (drop at out)) ≡ sets out at (take (end - at) text)
    copied = rw (e, l, drop-drop (end - at) at out, sets-eq (take (end - at) text) out at (omega (arith, fits)), here)
        (sym (append_assoc (take at out) (take (end - at) text) (drop (at + (end - at)) out)))

    lost : (l : List ℕ) → length l ≡ length out → sets l (at + length (take (end - at) text)) (drop (end - at) text) ≡ l
    lost l p =
        at_most? (length out) end
        (λ q. sets-past l (at + length (take (end - at) text)) (drop (end - at) text) (omega (arith, fits)))
        (λ q. rw (drop_of_length-le text {i = end - at} (omega arith)))

-- A text that begins at the end or past it leaves the bytes as they were.
pub laid-past :
    (out : List ℕ) (at : ℕ) (text : List ℕ) (end : ℕ)
    → end ≤ at
    → end ≡ min (at + length text) (length out)
    → Laid out at text out end
laid-past out at [] end h m = record { bytes = refl; stop = m }
laid-past out at (x ∷ text) end h m = record { bytes = sym (sets-past out at (x ∷ text) (omega arith)); stop = m }

-- A text that fits: the bytes before it stay, it follows them, and so does what stood behind it.
pub laid-fits :
    (out out' : List ℕ) (at end : ℕ) (text : List ℕ)
    → Laid out at text out' end
    → at + length text ≤ length out
    → (end ≡ at + length text) × (take end out' ≡ take at out ++ text)
laid-fits out out' at end text a h =
    let e : end ≡ at + length text = omega (arith, a.stop) in
    (e, rw (e, a.bytes, sets-eq text out at h) (take_at (take at out ++ text) (drop (at + length text) out) (at + length text) long))
  where
    long : length (take at out ++ text) ≡ at + length text
    long = length-append (take at out) text ∙ ap (λ (n : ℕ). n + length text) (length-take-le at out (omega arith))

-- Numbers laid one by one: one more.
pub spaced-snoc : (ns : List ℕ) (n : ℕ) → spaced ns ++ (32 ∷ decimal n) ≡ spaced (ns ++ (n ∷ []))
unfolding spaced
spaced-snoc [] n = sym (append-nil (32 ∷ decimal n))
spaced-snoc (m ∷ ns) n = append_assoc (32 ∷ decimal m) (spaced ns) (32 ∷ decimal n) ∙ ap (λ (t : List ℕ). (32 ∷ decimal m) ++ t) (spaced-snoc ns n)

pub numbers-again :
    (out out₁ out₂ : List ℕ) (at r s : ℕ) (ns : List ℕ) (i : ℕ)
    → i < length ns
    → Laid out at (spaced (take i ns)) out₁ r
    → Laid out₁ r (32 ∷ decimal (get_or ns i 0)) out₂ s
    → Laid out at (spaced (take (i + 1) ns)) out₂ s
numbers-again out out₁ out₂ at r s ns i h a b =
    laid_as out out₂ at s
    (spaced (take i ns) ++ (32 ∷ decimal (get_or ns i 0))) (spaced (take (i + 1) ns))
    (laid-join out out₁ out₂ at r s (spaced (take i ns)) (32 ∷ decimal (get_or ns i 0)) a b)
    (spaced-snoc (take i ns) (get_or ns i 0) ∙ rw (add-one i, take-suc ns i 0 h))
