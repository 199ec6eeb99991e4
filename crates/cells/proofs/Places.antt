-- What a read finds after a write, and when two memories are the same.
-- Assumes nothing.
use Prim.Native.Nat.{ℕ, zero, suc, ◌+◌, ◌*◌, ◌/◌, ◌%◌, ◌-◌, ◌≤◌, ◌<◌}
use native.Mathlib.Omega.{arith}
use mathlib.Core.Bool.{Bool, true, false, cond, ◌&&◌}
use mathlib.Core.List.{List}
use mathlib.Core.Logic.{◌≢◌}
use mathlib.Core.Path.{◌≡◌, refl, sym, ap, ◌∙◌}
use lib.ListN.{length, get_or, set, drop, length-set}
use lib.Seq.{get_or-set_same, get_or-set_other, drop-set-lt, get_or-drop, ext_get_or}
use lib.Dec.{ltb}
use Rattle.cells.proofs.Cases.{at_most?}
use Rattle.cells.proofs.Memory.{word_in, word-no-field, word-no-cell, put_in, put-no-field, put-no-cell}
use Rattle.cells.specs.Words.{word, put_word}

-- A field of a cell stands in memory, or it is no field, or the cell is none.
spot? : {P : Type 0} (w : List ℕ) (c f : ℕ) → (f < 8 → c < length w / 8 → P) → (8 ≤ f → P) → (length w / 8 ≤ c → P) → P
spot? w c f inside no_field no_cell =
    at_most? 8 f no_field (λ h. at_most? (length w / 8) c no_cell (λ k. inside h k))

-- A write keeps the length.
pub put-length : (w : List ℕ) (c f v : ℕ) → length (put_word w c f v) ≡ length w
unfolding put_word
put-length w c f v = go (ltb f 8 && ltb c (length w / 8))
  where
    go : (t : Bool) → length (cond t (set w (c * 8 + f) v) w) ≡ length w
    go true = length-set w (c * 8 + f) v
    go false = refl

-- A word that was written is read.
pub put_same : (w : List ℕ) (c f v : ℕ) → f < 8 → c < length w / 8 → word (put_word w c f v) c f ≡ v
put_same w c f v h k =
    word_in (put_word w c f v) c f h (rw put-length k)
    ∙ rw (put_in w c f v h k) (get_or-set_same w (c * 8 + f) v 0 (omega arith))

-- A write leaves each word that stands elsewhere.
put-apart :
    (w : List ℕ) (c f v c' f' : ℕ)
    → (f < 8 → f' < 8 → c' * 8 + f' ≢ c * 8 + f)
    → word (put_word w c f v) c' f' ≡ word w c' f'
put-apart w c f v c' f' apart =
    spot? w c f
    (λ h k.
    spot? w c' f'
    (λ h' k'.
    word_in (put_word w c f v) c' f' h' (rw put-length k')
    ∙ rw (put_in w c f v h k) (get_or-set_other w (c * 8 + f) (c' * 8 + f') v 0 (apart h h'))
    ∙ sym (word_in w c' f' h' k'))
    (λ h'. word-no-field (put_word w c f v) c' f' h' ∙ sym (word-no-field w c' f' h'))
    (λ k'. word-no-cell (put_word w c f v) c' f' (rw put-length k') ∙ sym (word-no-cell w c' f' k')))
    (λ h. ap (λ (x : List ℕ). word x c' f') (put-no-field w c f v h))
    (λ k. ap (λ (x : List ℕ). word x c' f') (put-no-cell w c f v k))

pub put-other-field : (w : List ℕ) (c f v c' f' : ℕ) → f ≢ f' → word (put_word w c f v) c' f' ≡ word w c' f'
put-other-field w c f v c' f' d = put-apart w c f v c' f' (λ h h' e. d (omega arith))

pub put-other-cell : (w : List ℕ) (c f v c' f' : ℕ) → c ≢ c' → word (put_word w c f v) c' f' ≡ word w c' f'
put-other-cell w c f v c' f' d = put-apart w c f v c' f' (λ h h' e. d (omega arith))

-- "The last L mod 8 words are never touched."
pub put-tail : (w : List ℕ) (c f v : ℕ) → drop (length w / 8 * 8) (put_word w c f v) ≡ drop (length w / 8 * 8) w
put-tail w c f v =
    spot? w c f
    (λ h k. rw (put_in w c f v h k) (drop-set-lt (length w / 8 * 8) w (c * 8 + f) v (omega arith)))
    (λ h. ap (λ (x : List ℕ). drop (length w / 8 * 8) x) (put-no-field w c f v h))
    (λ k. ap (λ (x : List ℕ). drop (length w / 8 * 8) x) (put-no-cell w c f v k))

-- A word of the list, by its cell and field.
pub word_at : (w : List ℕ) (i : ℕ) → i < length w / 8 * 8 → word w (i / 8) (i % 8) ≡ get_or w i 0
word_at w i h =
    word_in w (i / 8) (i % 8) (omega arith) (omega arith)
    ∙ ap (λ (j : ℕ). get_or w j 0) (omega arith)

-- Memories as long, with the same words in each cell and the same words past the cells, are the same.
pub words-ext :
    (w w' : List ℕ)
    → length w ≡ length w'
    → ((c f : ℕ) → c < length w / 8 → f < 8 → word w c f ≡ word w' c f)
    → drop (length w / 8 * 8) w ≡ drop (length w / 8 * 8) w'
    → w ≡ w'
words-ext w w' e same tail = ext_get_or 0 w w' e (λ i h. at i)
  where
    m : ℕ
    m = length w / 8 * 8

    past : (v : List ℕ) (i : ℕ) → m ≤ i → get_or (drop m v) (i - m) 0 ≡ get_or v i 0
    past v i k = get_or-drop m v (i - m) 0 ∙ ap (λ (j : ℕ). get_or v j 0) (omega arith)

    at : (i : ℕ) → get_or w i 0 ≡ get_or w' i 0
    at i =
        at_most? m i
        (λ k. sym (past w i k) ∙ ap (λ (x : List ℕ). get_or x (i - m) 0) tail ∙ past w' i k)
        (λ k. sym (word_at w i k) ∙ same (i / 8) (i % 8) (omega arith) (omega arith) ∙ word_at w' i (rw e at k))

-- What holds of each of the eight fields holds of every field.
pub each-field : (P : ℕ → Type 0) → P 0 → P 1 → P 2 → P 3 → P 4 → P 5 → P 6 → P 7 → (f : ℕ) → f < 8 → P f
each-field P a b c d e g i j zero l = a
each-field P a b c d e g i j (suc zero) l = b
each-field P a b c d e g i j (suc (suc zero)) l = c
each-field P a b c d e g i j (suc (suc (suc zero))) l = d
each-field P a b c d e g i j (suc (suc (suc (suc zero)))) l = e
each-field P a b c d e g i j (suc (suc (suc (suc (suc zero))))) l = g
each-field P a b c d e g i j (suc (suc (suc (suc (suc (suc zero)))))) l = i
each-field P a b c d e g i j (suc (suc (suc (suc (suc (suc (suc zero))))))) l = j
each-field P a b c d e g i j (suc (suc (suc (suc (suc (suc (suc (suc f)))))))) l = absurd (omega arith)
