-- A CPU gets, keeps or gives up a line.
use Rattle.std.proofs.Common.{◌≡◌, ◌≢◌, ℕ, ◌+◌, ◌*◌, ◌<◌, ◌≤◌, true, false, List, [], length}
use Rattle.std.proofs.Common.{Option, Some, None, is_some, refl, sym, ap, subst, ◌∙◌, arith, inl, inr}
use Rattle.std.specs.Prelude.{◌⊎◌}
use Rattle.std.proofs.lemmas.Bool.{cases_eq}
use Rattle.std.proofs.lemmas.Option.{same_Some}
use borrow.Enum.Arm.{by_way}
use Rattle.line_table.specs.declared.table.Mode.{Mode}
use Rattle.line_table.specs.declared.table.Mode.TheVariants.{Shared, Exclusive}
use Rattle.line_table.specs.Sizes.{storage_lines}
use Rattle.line_table.specs.Holders.{Holders, Holdings, holding, mode_in, against, is_against}
use Rattle.line_table.proofs.Seen.{holding_here, holding_other_cpu, holding_other_line}
use Rattle.line_table.proofs.Against.{none_against}
use Rattle.l1_data.specs.Sizes.{line_size}
use Rattle.l1_data.specs.Copies.{Kept}
use Rattle.line_copies.specs.Coherence.{Copied, line_in, flat, IsCoherent}
use Rattle.line_copies.specs.Seen.{copied, seen_bytes, IsKept}
use Rattle.line_copies.proofs.Flat.{IsClean}
use Rattle.line_copies.proofs.Change.{IsChange, IsMove, holder_alone, moved_seen, moved_coherent}
use Rattle.line_copies.proofs.Shown.{line_in_copy, line_in_storage, none_beside_shared}

pub mode_cases : (mode : Option Mode) → (mode ≡ None) ⊎ ((mode ≡ Some Shared) ⊎ (mode ≡ Some Exclusive))
mode_cases None = inl refl
mode_cases (Some Shared) = inr (inl refl)
mode_cases (Some Exclusive) = inr (inr refl)

-- ---- the copies of a line that nobody else holds exclusively

clean_from : (cpus : ℕ) (held : Holders) (copies : Copied) (storage : List ℕ) (cpu line : ℕ)
    → IsCoherent cpus held copies storage → ((copy : List ℕ) → copies cpu line ≡ Some copy → copy ≡ line_in
    storage line)
    → ((other : ℕ) → other < cpus → other ≢ cpu → held other line ≢ Some Exclusive)
    → IsClean cpus copies storage line
clean_from cpus held copies storage cpu line coherent own others =
    record {
      each = λ c b below has. by_way (cases_eq c cpu)
          (λ e. own b (ap (λ k. copies k line) (sym e) ∙ has))
          (λ ne. by_way (mode_cases (held c line))
          (λ none.
          let n : true ≡ false = sym (ap is_some has) ∙ coherent.there c line below ∙ ap is_some none in cc)
          (λ some. by_way some
          (λ shares. same_Some b (line_in storage line) (sym has ∙ coherent.shared c line below shares))
          (λ alone. absurd (others c below ne alone))));
    }

not_exclusive : (wanted : Mode) (mode : Option Mode) → is_against wanted mode ≡ false → mode ≢ Some Exclusive
not_exclusive wanted mode free is =
    let n : false ≡ true = sym free ∙ ap (is_against wanted) is in cc

not_there : (wanted : Mode) (mode : Option Mode) → wanted ≡ Exclusive → is_against wanted mode ≡ false → mode
    ≡ None
not_there wanted None e free = refl
not_there wanted (Some Exclusive) e free = let n : true ≡ false = free in cc
not_there wanted (Some Shared) e free =
    let n : true ≡ false = sym (ap (λ w. is_against w (Some Shared)) e) ∙ free in cc

module _ (cpus : ℕ) (held : Holders) (copies : Copied) (storage : List ℕ) (cpu line : ℕ)
    (coherent : IsCoherent cpus held copies storage) (in_range : cpu < cpus)
    (own : (copy : List ℕ) → copies cpu line ≡ Some copy → copy ≡ line_in storage line) where
  no_other : held cpu line ≢ None → (other : ℕ) → other < cpus → other ≢ cpu → held other line ≢ Some
      Exclusive
  no_other holds other below ne is =
      holds (coherent.alone other cpu line below in_range is (λ e. ne (sym e)))

  pub demoting : held cpu line ≢ None
      → IsMove cpus held copies storage cpu line (Some Shared) (copies cpu line)
  demoting holds =
      record {
        clean = clean_from cpus held copies storage cpu line coherent own (no_other holds);
        both = coherent.there cpu line in_range ∙ by_way (mode_cases (held cpu line))
            (λ none. absurd (holds none))
            (λ some. by_way some (λ e. ap is_some e) (λ e. ap is_some e));
        from_storage = own;
        others = λ other below ne is. let n : Some Shared ≡ Some Exclusive = is in cc;
        stays = λ other below ne is. absurd (no_other holds other below ne is);
      }

  pub giving_up : held cpu line ≢ None → IsMove cpus held copies storage cpu line None None
  giving_up holds =
      record {
        clean = clean_from cpus held copies storage cpu line coherent own (no_other holds);
        both = refl;
        from_storage = λ b is. let n : None ≡ Some b = is in cc;
        others = λ other below ne is. let n : None ≡ Some Exclusive = is in cc;
        stays = λ other below ne is. refl;
      }

  pub granting : (mode : Mode) (copy : Option (List ℕ)) → against cpus held cpu line mode ≡ []
      → is_some copy ≡ true → ((b : List ℕ) → copy ≡ Some b → b ≡ line_in storage line)
      → IsMove cpus held copies storage cpu line (Some mode) copy
  granting mode copy free there from =
      record {
        clean = clean_from cpus held copies storage cpu line coherent own
            (λ other below ne is. not_exclusive mode (held other line) (free_of other below ne) is);
        both = there;
        from_storage = from;
        others = λ other below ne is. not_there mode (held other line) (same_Some mode Exclusive is) (free_of
            other below ne);
        stays = λ other below ne is. absurd (not_exclusive mode (held other line) (free_of other below ne)
            is);
      }
    where
      free_of : (other : ℕ) → other < cpus → other ≢ cpu → is_against mode (held other line) ≡ false
      free_of = none_against cpus held cpu line mode free

-- ---- the same of a table and the copies as they are kept

pub no_change : (copies : Copied) (cpu line : ℕ)
    → IsChange (Option (List ℕ)) copies copies cpu line (copies cpu line)
no_change copies cpu line = record {
  here = refl;
  other_cpu = λ c l ne. refl;
  other_line = λ c l ne. refl;
}

held_change : (now old : Holders) (cpu line : ℕ) (mode : Option Mode) → now ≡ holding old cpu line mode
    → IsChange (Option Mode) now old cpu line mode
held_change now old cpu line mode e =
    record {
      here = ap (λ (h : Holders). h cpu line) e ∙ holding_here old cpu line mode;
      other_cpu = λ c l ne. ap (λ (h : Holders). h c l) e ∙ holding_other_cpu old cpu line mode c l ne;
      other_line = λ c l ne. ap (λ (h : Holders). h c l) e ∙ holding_other_line old cpu line mode c l ne;
    }

module _ (table table' : Holdings) (items items' : List Kept) (storage : List ℕ) (cpu line : ℕ)
    (mode : Option Mode) (copy : Option (List ℕ))
    (cpus : table'.cpus ≡ table.cpus)
    (holds : mode_in table' ≡ holding (mode_in table) cpu line mode)
    (change : IsChange (Option (List ℕ)) (copied items') (copied items) cpu line copy)
    (move : IsMove table.cpus (mode_in table) (copied items) storage cpu line mode copy) where
  pub table_seen : seen_bytes storage table' items' ≡ seen_bytes storage table items
  table_seen =
      ap (λ n. flat n (mode_in table') (copied items') storage) cpus
      ∙ moved_seen table.cpus (mode_in table) (mode_in table') (copied items) (copied items') storage cpu
      line mode
      copy (held_change (mode_in table') (mode_in table) cpu line mode holds) change move

  pub table_kept : line < storage_lines → length items' ≡ length items → IsKept storage table items
      → IsKept storage table' items'
  table_kept low size kept =
      record {
        size = kept.size;
        each = size ∙ kept.each ∙ sym cpus;
        coherent = subst (λ n. IsCoherent n (mode_in table') (copied items') storage) (sym cpus)
            (moved_coherent table.cpus (mode_in table) (mode_in table') (copied items) (copied items')
            storage cpu
            line mode copy (held_change (mode_in table') (mode_in table) cpu line mode holds) change move
            (omega (arith, low, kept.size)) kept.coherent);
      }

-- ---- a line whose copy was written back

pub record IsWrittenBack (before storage : List ℕ) (table : Holdings) (items : List Kept) (cpu line : ℕ) :
    Type 0 where
  pub kept : IsKept storage table items
  pub bytes : seen_bytes storage table items ≡ seen_bytes before table items
  pub clean : (copy : List ℕ) → copied items cpu line ≡ Some copy → copy ≡ line_in storage line

pub written_back_of : (before storage : List ℕ) (table : Holdings) (slice items : List Kept) (cpu line : ℕ)
    → slice ≡ items → IsKept storage table slice → seen_bytes storage table slice ≡ seen_bytes before table
    slice
    → ((copy : List ℕ) → copied slice cpu line ≡ Some copy → copy ≡ line_in storage line)
    → IsWrittenBack before storage table items cpu line
written_back_of before storage table slice items cpu line e kept bytes clean =
    subst (λ (k : List Kept). IsWrittenBack before storage table k cpu line) e (
    let whole : IsWrittenBack before storage table slice cpu line =
    record { kept = kept; bytes = bytes; clean = clean } in whole
    )

-- ---- the line of a CPU that holds it

pub line_of_holder : (cpus : ℕ) (held : Holders) (copies : Copied) (storage : List ℕ) (cpu line : ℕ) (copy :
    List ℕ)
    → IsCoherent cpus held copies storage → cpu < cpus → copies cpu line ≡ Some copy
    → line * line_size + line_size ≤ length storage
    → copy ≡ line_in (flat cpus held copies storage) line
line_of_holder cpus held copies storage cpu line copy coherent low has within =
    by_way (mode_cases (held cpu line))
    (λ none.
    let n : true ≡ false = ap is_some (sym has) ∙ coherent.there cpu line low ∙ ap is_some none in cc)
    (λ some. by_way some
    (λ shares.
    same_Some copy (line_in storage line) (sym has ∙ coherent.shared cpu line low shares)
    ∙ line_in_storage cpus held copies storage line
    (none_beside_shared held cpus cpu line (λ c lt is ne. coherent.alone c cpu line lt low is ne) shares)
    within)
    (λ alone.
    line_in_copy cpus held copies storage cpu line copy
    (holder_alone cpus held copies storage cpu line coherent low alone) has (coherent.sized cpu line copy low
    has)
    within))
