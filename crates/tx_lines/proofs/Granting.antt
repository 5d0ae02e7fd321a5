-- What a line that is given up changes for a grant.
use Rattle.std.proofs.Common.{◌≡◌, ℕ, ◌+◌, ◌<◌, Bool, true, false, sym, ap, ◌∙◌}
use Rattle.std.proofs.Common.{arith, None, is_some}
use Rattle.std.specs.Prelude.{◌&&◌, not, ◌==◌}
use Rattle.std.specs.List.{filter, range_with_len}
use Rattle.std.proofs.lemmas.Bool.{cases_eq, eq-eqb}
use borrow.Enum.Arm.{by_way}
use Rattle.bit_set.specs.Counts.{count_below, one_if, but_at}
use Rattle.bit_set.proofs.Counts.{count_agree, count_but_at, but_at-same, but_at-other}
use Rattle.line_table.specs.declared.table.Mode.{Mode}
use Rattle.line_table.specs.Sizes.{storage_lines}
use Rattle.line_table.specs.Holders.{Holders, holding, against, is_against, lines_held}
use Rattle.line_table.proofs.Seen.{holding_here, holding_other_cpu, holding_other_line}
use Rattle.tx_lines.specs.Next.{stands_against}

-- a CPU's own holds do not stand against it
still_stands : (held : Holders) (cpu given line : ℕ) (wanted : Mode) (other : ℕ)
    → stands_against (holding held cpu given None) cpu line wanted other
    ≡ stands_against held cpu line wanted other
still_stands held cpu given line wanted other =
    by_way (cases_eq other cpu)
    (λ e. ap (λ b. not b && is_against wanted (holding held cpu given None other line)) (eq-eqb other cpu e)
    ∙ sym (ap (λ b. not b && is_against wanted (held other line)) (eq-eqb other cpu e)))
    (λ ne. ap (λ h. not (other == cpu) && is_against wanted h)
    (holding_other_cpu held cpu given None other line ne))

pub same_against : (cpus : ℕ) (held : Holders) (cpu given line : ℕ) (wanted : Mode)
    → against cpus (holding held cpu given None) cpu line wanted ≡ against cpus held cpu line wanted
unfolding against
same_against cpus held cpu given line wanted =
    ap (λ (test : ℕ → Bool). filter test (range_with_len 0 cpus))
    (λ i other. still_stands held cpu given line wanted other i)

-- there is room for one line more
held_line : (held : Holders) (cpu given l : ℕ)
    → is_some (holding held cpu given None cpu l) ≡ but_at (λ k. is_some (held cpu k)) given false l
held_line held cpu given l =
    by_way (cases_eq l given)
    (λ e. ap (λ k. is_some (holding held cpu given None cpu k)) e
    ∙ ap is_some (holding_here held cpu given None)
    ∙ sym (ap (but_at (λ k. is_some (held cpu k)) given false) e ∙ but_at-same (λ k. is_some (held cpu k)) given
    false))
    (λ ne. ap is_some (holding_other_line held cpu given None cpu l ne)
    ∙ sym (but_at-other (λ k. is_some (held cpu k)) given false l ne))

pub one_fewer : (held : Holders) (cpu given : ℕ) → given < storage_lines → is_some (held cpu given) ≡ true
    → lines_held (holding held cpu given None) cpu + 1 ≡ lines_held held cpu
one_fewer held cpu given lt some =
    let same : lines_held (holding held cpu given None) cpu
    ≡ count_below storage_lines (but_at (λ k. is_some (held cpu k)) given false) =
    count_agree storage_lines (λ l. is_some (holding held cpu given None cpu l))
    (but_at (λ k. is_some (held cpu k)) given false) (λ l low. held_line held cpu given l) in
    let counted = count_but_at storage_lines (λ k. is_some (held cpu k)) given false lt in
    let one : one_if (is_some (held cpu given)) ≡ 1 = ap one_if some in
    omega arith
