-- Laws of bytes moved to the front, one by one.
-- Assumes nothing.
use Prim.Native.Nat.{ℕ, ◌+◌, ◌-◌, ◌<◌, min}
use native.Mathlib.Omega.{arith}
use mathlib.Core.List.{List}
use mathlib.Core.Path.{◌≡◌, refl, sym, ◌∙◌}
use lib.ListN.{length, take, drop, length-take, length-drop}
use lib.Seq.{get_or-take, get_or-drop, ext_get_or, length-take-le}
use Rattle.std.specs.List.{copy_within}
use Rattle.script.specs.Chunks.{carried_of, Carried}

-- What is carried, counted.
carried_same :
    (s : List ℕ) (from to n : ℕ)
    → n ≡ min 129 (min to (length s) - from)
    → take n (drop from s) ≡ carried_of s from to
unfolding carried_of
carried_same s from to n e =
    ext_get_or 0 (take n (drop from s)) (take 129 (drop from (take to s)))
    (omega (arith, short, length-take 129 (drop from (take to s)), length-drop from (take to s), length-take to s))
    (λ i h.
    let k : i < n = omega (arith, short) in
    rw (get_or-take n (drop from s) i 0 k, get_or-drop from s i 0, get_or-take 129 (drop from (take to s)) i 0 (omega arith), get_or-drop from (take to s) i 0, get_or-take to s (from + i) 0 (omega arith)))
  where
    short : length (take n (drop from s)) ≡ n
    short = length-take-le n (drop from s) (omega (arith, length-drop from s))

-- The bytes that are copied to the front are those that are carried.
pub carrying-copied :
    (s : List ℕ) (from to : ℕ) (s' : List ℕ) (n : ℕ)
    → n ≡ min 129 (min to (length s) - from)
    → s' ≡ copy_within s from (from + n) 0
    → Carried s from to s' n
carrying-copied s from to s' n m e =
    let same : take n (drop from s) ≡ carried_of s from to = carried_same s from to n m in
    let count : (from + n) - from ≡ n = omega arith in
    let front : 0 + n ≡ n = omega arith in
    record {
      bytes = rw (← same) (e ∙ rw (count, front));
      many = rw (← same) (sym (length-take-le n (drop from s) (omega (arith, length-drop from s))));
    }

-- Where none are carried, the bytes stay.
pub carrying-none :
    (s : List ℕ) (from to n : ℕ)
    → n ≡ 0
    → n ≡ min 129 (min to (length s) - from)
    → Carried s from to s n
carrying-none s from to n z m =
    let same : take n (drop from s) ≡ carried_of s from to = carried_same s from to n m in
    record {
      bytes = rw (← same, z) refl;
      many = rw (← same) (sym (length-take-le n (drop from s) (omega (arith, length-drop from s))));
    }
