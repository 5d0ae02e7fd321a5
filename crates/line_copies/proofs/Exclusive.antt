-- The exclusive holder of each line, beside a table in which one hold changes.
use Rattle.std.proofs.Common.{◌≡◌, ◌≢◌, ℕ, ◌<◌, ◌^◌, List, length, get_or, set, Option, replicate}
use Rattle.std.proofs.Common.{sym, ap, subst, ◌∙◌, arith}
use Rattle.std.proofs.lemmas.Bool.{cases_eq}
use Rattle.std.proofs.lemmas.List.{length-set, get_or-set_same, get_or-set_other}
use Rattle.std.proofs.lemmas.List.{length-replicate, get_or-replicate}
use borrow.Enum.Arm.{by_way}
use Rattle.line_table.specs.declared.table.Mode.{Mode}
use Rattle.line_table.specs.Sizes.{storage_lines}
use Rattle.line_table.specs.Holders.{Holders, Holdings, holding, mode_in, nobody}
use Rattle.line_table.proofs.Seen.{holding_other_line}
use Rattle.line_copies.specs.Coherence.{exclusive_holder, is_exclusive}
use Rattle.line_copies.specs.Directory.{AreExclusive, number_of}
use Rattle.line_copies.proofs.Flat.{none_exclusive}

-- where nobody holds a line, no line has an exclusive holder
pub none_at_first : (table : Holdings) (exclusive : List ℕ) → exclusive ≡ replicate storage_lines 0
    → mode_in table ≡ nobody → table.cpus < 2 ^ 32 → AreExclusive table exclusive
none_at_first table exclusive all empty few =
    record {
      few = few;
      size = ap length all ∙ length-replicate {A = ℕ} storage_lines 0;
      each = λ line low. ap (λ e. get_or e line 0) all ∙ get_or-replicate storage_lines line 0 0 low
          ∙ sym (ap number_of (none_exclusive table.cpus (λ cpu. mode_in table cpu line)
          (λ cpu _. ap (λ (h : Holders). is_exclusive (h cpu line)) empty)));
    }

-- where a hold of one line has changed, that line's exclusive holder is found again
pub found_again : (table table' : Holdings) (exclusive : List ℕ) (cpu line : ℕ) (mode : Option Mode)
    (found : ℕ) → AreExclusive table exclusive → line < storage_lines → table'.cpus ≡ table.cpus
    → mode_in table' ≡ holding (mode_in table) cpu line mode
    → found ≡ number_of (exclusive_holder table'.cpus (λ c. mode_in table' c line))
    → AreExclusive table' (set exclusive line found)
found_again table table' exclusive cpu line mode found before low cpus holds is =
    record {
      few = subst (λ n. n < 2 ^ 32) (sym cpus) before.few;
      size = length-set exclusive line found ∙ before.size;
      each = λ l below. by_way (cases_eq l line)
          (λ e. ap (λ k. get_or (set exclusive line found) k 0) e
          ∙ get_or-set_same exclusive line found 0 (omega (arith, low, before.size)) ∙ is
          ∙ ap (λ k. number_of (exclusive_holder table'.cpus (λ c. mode_in table' c k))) (sym e))
          (λ ne. get_or-set_other exclusive line l found 0 ne ∙ before.each l below
          ∙ ap (λ n. number_of (exclusive_holder n (λ c. mode_in table c l))) (sym cpus)
          ∙ (λ i. number_of (exclusive_holder table'.cpus (λ c. same l ne c i))));
    }
  where
    same : (l : ℕ) → l ≢ line → (c : ℕ) → mode_in table c l ≡ mode_in table' c l
    same l ne c =
        sym (ap (λ (h : Holders). h c l) holds ∙ holding_other_line (mode_in table) cpu line mode c l ne)
