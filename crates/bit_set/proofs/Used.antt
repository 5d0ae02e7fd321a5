-- The words in use, after each change of one word.
use Rattle.std.proofs.Common.{◌≡◌, ℕ, ◌+◌, ◌*◌, ◌/◌, ◌%◌, ◌<◌, ◌≤◌, ◌^◌, false, min, max, List, length, get_or, set, sym, ap}
use Rattle.std.proofs.Common.{◌∙◌, arith, Some, None, IfSome, IfNone, subst, cond, ltb}
use Rattle.std.proofs.lemmas.Bool.{cases_eq, cases_lt, cond-true, cond-false, lt-ltb, le-ltb}
use Rattle.std.proofs.lemmas.List.{length-set, get_or-set_same, get_or-set_other, get_or_past}
use Rattle.std.proofs.lemmas.Nat.Bits.{bit_at-zero}
use Rattle.std.proofs.lemmas.List.Elements.{All-set}
use borrow.Enum.Arm.{by_way}
use Rattle.bit_set.specs.Bits.{bit, bits_of, IsNext, NoneMarked}
use Rattle.bit_set.specs.Used.{IsKept}
use Rattle.bit_set.proofs.Marks.{length-bits_of, get_or-bits_of}
use Rattle.bit_set.proofs.Words.{bit_of_zero}

module _ (words : List ℕ) (word at low high : ℕ) where
  -- a word that changes is in use
  pub kept_with : word < 2 ^ 64 → at < length words → IsKept words low high
      → IsKept (set words at word) (min low at) (max high (at + 1))
  kept_with fits within kept =
      record {
        fits = All-set (λ w. w < 2 ^ 64) words at word fits kept.fits;
        end = omega (arith, kept.end, within, length-set words at word);
        used = record {
          below = λ k lt. get_or-set_other words at k word 0 (λ e. absurd (omega (arith, e, lt)))
              ∙ kept.used.below k (omega (arith, lt));
          from_on = λ k le. get_or-set_other words at k word 0 (λ e. absurd (omega (arith, e, le)))
              ∙ kept.used.from_on k (omega (arith, le));
        };
      }

  -- a word that stays zero where it was zero needs not be in use
  pub kept_without : word < 2 ^ 64 → at < length words → (get_or words at 0 ≡ 0 → word ≡ 0) → IsKept words low high
      → IsKept (set words at word) low high
  kept_without fits within stays kept =
      record {
        fits = All-set (λ w. w < 2 ^ 64) words at word fits kept.fits;
        end = omega (arith, kept.end, length-set words at word);
        used = record {
          below = λ k lt. still k (kept.used.below k lt);
          from_on = λ k le. still k (kept.used.from_on k le);
        };
      }
    where
      still : (k : ℕ) → get_or words k 0 ≡ 0 → get_or (set words at word) k 0 ≡ 0
      still k zero =
          by_way (cases_eq k at)
          (λ e. ap (λ n. get_or (set words at word) n 0) e ∙ get_or-set_same words at word 0 within
          ∙ stays (ap (λ n. get_or words n 0) (sym e) ∙ zero))
          (λ ne. get_or-set_other words at k word 0 ne ∙ zero)

-- what is found among the words in use is found among all, from a word on
module _ (words : List ℕ) (low high word past end : ℕ) (kept : IsKept words low high) (over : end ≤ 64 * past) where
  unmarked : (k : ℕ) → get_or words (k / 64) 0 ≡ 0 → get_or (bits_of words) k false ≡ false
  unmarked k zero =
      by_way (cases_lt k (64 * length words))
      (λ under. get_or-bits_of words k false under ∙ ap (λ w. bit w (k % 64)) zero
      ∙ bit_of_zero 0 (k % 64) (bit_at-zero (k % 64)))
      (λ beyond. get_or_past (bits_of words) k false (omega (arith, beyond, length-bits_of words)))

  none_from : (at : ℕ) → NoneMarked (bits_of words) (64 * max word low) at
      → NoneMarked (bits_of words) (64 * word) at
  none_from at none k le lt =
      by_way (cases_lt k (64 * max word low))
      (λ early. unmarked k (kept.used.below (k / 64) (omega (arith, le, early))))
      (λ ge. none k ge lt)

  pub found_in_all : (at : ℕ) → IsNext (bits_of words) (64 * max word low) (64 * min past high) at
      → IfSome (cond (ltb at end) (Some at) None) (λ n. IsNext (bits_of words) (64 * word) end n)
  found_in_all at found =
      by_way (cases_lt at end)
      (λ lt. subst (λ o. IfSome o (λ n. IsNext (bits_of words) (64 * word) end n))
      (sym (cond-true (ltb at end) (Some at) None (lt-ltb at end lt)))
      (record {
        from_on = omega (arith, found.from_on);
        below = lt;
        marked = found.marked;
        first = none_from at found.first;
      }))
      (λ le. subst (λ o. IfSome o (λ n. IsNext (bits_of words) (64 * word) end n))
      (sym (cond-false (ltb at end) (Some at) None (le-ltb at end le))) tt)

  pub none_but_found : (at : ℕ) → IsNext (bits_of words) (64 * max word low) (64 * min past high) at
      → IfNone (cond (ltb at end) (Some at) None) (NoneMarked (bits_of words) (64 * word) end)
  none_but_found at found =
      by_way (cases_lt at end)
      (λ lt. subst (λ o. IfNone o (NoneMarked (bits_of words) (64 * word) end))
      (sym (cond-true (ltb at end) (Some at) None (lt-ltb at end lt))) tt)
      (λ le. subst (λ o. IfNone o (NoneMarked (bits_of words) (64 * word) end))
      (sym (cond-false (ltb at end) (Some at) None (le-ltb at end le)))
      (λ k from under. none_from at found.first k from (omega (arith, le, under))))

  pub none_in_all : NoneMarked (bits_of words) (64 * max word low) (64 * min past high)
      → NoneMarked (bits_of words) (64 * word) end
  none_in_all none =
      none_from end (λ k le lt. by_way (cases_lt k (64 * min past high))
      (λ under. none k le under)
      (λ beyond. unmarked k (kept.used.from_on (k / 64) (omega (arith, beyond, lt, over)))))
