-- A list that is given the numbers of another, one after the other.
-- Assumes nothing.
use Prim.Native.Nat.{ℕ, ◌+◌, ◌<◌, ◌≤◌}
use mathlib.Core.Path.{◌≡◌, refl, sym, ◌∙◌}
use mathlib.Core.List.{List}
use native.Mathlib.Decide.{dec_lt}
use native.Mathlib.Omega.{arith}
use lib.ListN.{length, get_or, set, length-set}
use lib.Seq.{get_or-set_same, get_or-set_other, ext_get_or}

-- The first i numbers are those of the other list, and behind them it is as it was.
pub record Laid (before target now : List ℕ) (i : ℕ) : Type 0 where
  pub within : i ≤ length before
  pub size : length now ≡ length before
  pub done : (k : ℕ) → k < i → get_or now k 0 ≡ get_or target k 0
  pub ahead : (k : ℕ) → i ≤ k → get_or now k 0 ≡ get_or before k 0

module _ (before target : List ℕ) where
  -- Nothing is laid yet: the first numbers, if any, are the same in both.
  pub none_laid : (i : ℕ) → i ≤ length before → ((k : ℕ) → k < i → get_or before k 0 ≡ get_or target k 0) → Laid before target before i
  none_laid i h same = record { within = h; size = refl; done = same; ahead = λ k g. refl }

  module _ {now : List ℕ} {i : ℕ} (so : Laid before target now i) where
    pub one_laid : (x : ℕ) → i < length before → x ≡ get_or target i 0 → Laid before target (set now i x) (i + 1)
    one_laid x h e = record {
      within = omega arith;
      size = rw length-set so.size;
      done = λ k g. go k g (dec_lt k i);
      ahead = λ k g. get_or-set_other now i k x 0 (λ e. omega arith) ∙ so.ahead k (omega arith);
    }
      where
        go : (k : ℕ) → k < i + 1 → Dec (k < i) → get_or (set now i x) k 0 ≡ get_or target k 0
        go k g (yes q) = get_or-set_other now i k x 0 (λ e. omega arith) ∙ so.done k q
        go k g (no q) =
            let there : k ≡ i = omega arith in rw there (get_or-set_same now i x 0 (omega (arith, so.size)) ∙ e)

    pub all_laid : length target ≡ length before → length before ≤ i → now ≡ target
    all_laid long h =
        ext_get_or 0 now target (so.size ∙ sym long) (λ k g. so.done k (omega (arith, so.size)))
