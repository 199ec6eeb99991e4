-- Writes to cells make the words no more and no fewer, and leave those past the last cell, whatever the words are.
-- Assumes nothing.
use Prim.Native.Nat.{ℕ, ◌*◌, ◌/◌}
use mathlib.Core.List.{List}
use mathlib.Core.Path.{◌≡◌, refl, ◌∙◌}
use lib.ListN.{length, drop}
use Rattle.cells.specs.Words.{put_word}
use Rattle.cells.specs.Store.{entered, wiped, release_words}
use Rattle.cells.specs.declared.store.Store.{Store}
use Rattle.cells.proofs.Places.{put-length, put-tail}

-- As many words, and the last L mod 8 untouched.
pub record Framed (w v : List ℕ) : Type 0 where
  pub size : length v ≡ length w
  pub tail : drop (length w / 8 * 8) v ≡ drop (length w / 8 * 8) w

pub framed-none : (w : List ℕ) → Framed w w
framed-none w = record { size = refl; tail = refl }

pub framed-on : (w v u : List ℕ) → Framed w v → Framed v u → Framed w u
framed-on w v u a b = record { size = b.size ∙ a.size; tail = rw a.size at b.tail ∙ a.tail }

pub framed-put : (w : List ℕ) (c f v : ℕ) → Framed w (put_word w c f v)
framed-put w c f v = record { size = put-length w c f v; tail = put-tail w c f v }

-- A claim.
pub entered-framed : (w : List ℕ) (c k key load : ℕ) → Framed w (entered w c k key load)
unfolding entered
entered-framed w c k key load =
    framed-on w _ _
    (framed-on w _ _
    (framed-on w _ _ (framed-on w _ _ (framed-put w c 0 k) (framed-put _ c 1 k)) (framed-put _ c 2 key)) (framed-put _ c 3 load))
    (framed-put _ c 4 0)

-- A release.
pub released-framed : (w : List ℕ) (s : Store) (c : ℕ) → Framed w (release_words w s c)
unfolding release_words wiped
released-framed w s c =
    framed-on w _ _
    (framed-on w _ _
    (framed-on w _ _
    (framed-on w _ _
    (framed-on w _ _ (framed-on w _ _ (framed-put w c 0 0) (framed-put _ c 1 0)) (framed-put _ c 2 0)) (framed-put _ c 3 0))
    (framed-put _ c 5 0)) (framed-put _ c 7 0))
    (framed-put _ c 4 s.free)
