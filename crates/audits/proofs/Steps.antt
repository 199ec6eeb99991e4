-- What the audit's small functions find, as equations of their tests: one law for each way out of a function.
-- Assumes nothing.
use Prim.Native.Nat.{ℕ, zero, suc, ◌+◌, ◌/◌, ◌%◌, ◌^◌, ◌≤◌, ◌<◌}
use native.Mathlib.Numerals.{add-one}
use mathlib.Core.Bool.{Bool, true, false, cond}
use mathlib.Core.List.{List, [], ◌∷◌, ◌++◌, append-nil, append_assoc}
use mathlib.Core.Path.{◌≡◌, sym, ap, ◌∙◌}
use native.Mathlib.Omega.{arith}
use lib.ListN.{length, get_or, drop, set, length-append, length-drop}
use lib.Seq.{drop-cons, set_at}
use borrow.Author.Tests.{ne_eqb}
use Rattle.audits.proofs.Below.{each_below}
use Rattle.cells.specs.Rules.{in_use, in_mask}
use Rattle.audits.specs.AuditTests.{all_below, field_test, used_below}

module _ (w : List ℕ) where
  -- The first four fields: where none is in the mask, each passes.
  pub lower-none : (m c : ℕ) → m % 16 ≡ 0 → true ≡ all_below 4 (field_test w m c)
  unfolding field_test in_mask
  lower-none m c e = sym (each_below (field_test w m c) 4 each)
    where
      out : (f : ℕ) → m / 2 ^ f % 2 ≡ 0 → field_test w m c f ≡ true
      out f h = rw (ne_eqb (m / 2 ^ f % 2) 1 (λ q. omega (arith, q, h)))

      each : (f : ℕ) → f < 4 → field_test w m c f ≡ true
      each zero h = out 0 (omega arith)
      each (suc zero) h = out 1 (omega arith)
      each (suc (suc zero)) h = out 2 (omega arith)
      each (suc (suc (suc zero))) h = out 3 (omega arith)
      each (suc (suc (suc (suc f)))) h = absurd (omega arith)

-- One cell more is noted at the front, if it is in use.
pub gather-list : (w a : List ℕ) (c m : ℕ) → m ≡ length (used_below w c) → m < length a
    → cond (in_use w c) (set (used_below w c ++ drop m a) m c) (used_below w c ++ drop m a)
    ≡ used_below w (c + 1) ++ drop (cond (in_use w c) (m + 1) m) a
unfolding used_below
gather-list w a c m e h = rw (add-one c) (go (in_use w c))
  where
    go : (t : Bool) → cond t (set (used_below w c ++ drop m a) m c) (used_below w c ++ drop m a)
        ≡ (used_below w c ++ cond t (c ∷ []) []) ++ drop (cond t (m + 1) m) a
    go true =
        rw (drop-cons a m 0 h)
        (set_at (used_below w c) (get_or a m 0) (drop (suc m) a) c m (sym e)
        ∙ rw (add-one m) (sym (append_assoc (used_below w c) (c ∷ []) (drop (suc m) a))))
    go false = rw append-nil

pub gather-count : (w : List ℕ) (c m : ℕ) → m ≡ length (used_below w c) → cond (in_use w c) (m + 1) m ≡ length (used_below w (c + 1))
unfolding used_below
gather-count w c m e = rw (add-one c) (go (in_use w c))
  where
    go : (t : Bool) → cond t (m + 1) m ≡ length (used_below w c ++ cond t (c ∷ []) [])
    go true = omega (arith, length-append (used_below w c) (c ∷ []))
    go false = omega (arith, length-append (used_below w c) [])

pub used-length : (w : List ℕ) (n : ℕ) → length (used_below w n) ≤ n
unfolding used_below
used-length w zero = omega arith
used-length w (suc n) = go (in_use w n) (used-length w n)
  where
    go : (t : Bool) → length (used_below w n) ≤ n → length (used_below w n ++ cond t (n ∷ []) []) ≤ suc n
    go true r = omega (arith, length-append (used_below w n) (n ∷ []))
    go false r = omega (arith, length-append (used_below w n) [])

-- The array as `note` leaves it, and its length.
pub gather-step : (w a₀ a a' : List ℕ) (c m m' : ℕ) → m ≡ length (used_below w c) → m < length a₀ → a ≡ used_below w c ++ drop m a₀
    → m' ≡ cond (in_use w c) (m + 1) m
    → a' ≡ cond (in_use w c) (set a m c) a
    → a' ≡ used_below w (c + 1) ++ drop m' a₀
gather-step w a₀ a a' c m m' e h p q r =
    r
    ∙ ap (λ (l : List ℕ). cond (in_use w c) (set l m c) l) p
    ∙ gather-list w a₀ c m e h
    ∙ ap (λ (k : ℕ). used_below w (c + 1) ++ drop k a₀) (sym q)

pub gather-length : (w a₀ a : List ℕ) (c m : ℕ) → m ≡ length (used_below w c) → c ≤ length a₀ → a ≡ used_below w c ++ drop m a₀ → length a ≡ length a₀
gather-length w a₀ a c m e h p =
    omega (arith, ap length p, length-append (used_below w c) (drop m a₀), length-drop m a₀, used-length w c)
