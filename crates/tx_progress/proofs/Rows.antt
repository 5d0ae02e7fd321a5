-- What the instruction table says of begins and ends.
use Rattle.std.proofs.Common.{◌≡◌, ℕ, ◌≤◌, Bool, true, false, List, ⊎_elim, refl, sym, ap, subst, ◌∙◌, map}
use Rattle.std.proofs.Common.{length}
use Rattle.std.specs.Prelude.{◌&&◌, ◌||◌, not}
use Rattle.std.specs.List.{list_all}
use Rattle.std.proofs.lemmas.List.{get_or_past}
use Rattle.std.proofs.lemmas.Bool.{cases_lt, true≢false}
use Rattle.z_regs.specs.Cpu.{Cpu}
use Rattle.z_instr.specs.declared.instr.Instr.{Instr}
use Rattle.z_instr.specs.declared.table.TheConstants.{ROWS, TABLE}
use Rattle.z_instr.specs.Lines.{entry_of}
use Rattle.z_instr.specs.Table.{Entry, entry_at, table, no_entry}
use Rattle.z_instr.specs.Roles.{begins, is_end}
use Rattle.z_instr.proofs.TableFacts.{passes_row, same_table}
use Rattle.z_instr.specs.declared.kind.Kind.{Kind}
use Rattle.z_instr.specs.declared.kind.Kind.TheVariants as kind
use Rattle.z_instr.specs.declared.kind.Transaction.{Transaction}
use Rattle.z_instr.specs.declared.kind.Transaction.TheVariants as transaction
use Rattle.z_instr.specs.Table.{kind_at}
use Rattle.z_effect.specs.One.{one, effect, length_of}
use Rattle.z_effect.specs.Outcome.{Outcome, Did}
use Rattle.z_effect.specs.TransactionEffect.{transaction_effect}
use Rattle.z_instr.proofs.PlainImmediates.{implied}

-- a computed test of the table, said of every number
pub any_row : (test : Entry → Bool) → list_all test (map entry_of TABLE) ≡ true → test no_entry ≡ true
    → (n : ℕ)
    → test (entry_at n) ≡ true
unfolding entry_at
any_row test rows none n =
    ⊎_elim (λ h. passes_row test rows n h)
    (λ h. ap test (get_or_past table n no_entry (past h)) ∙ none) (cases_lt n ROWS)
  where
    past : ROWS ≤ n → length table ≤ n
    past h = subst (λ (t : List Entry). length t ≤ n) same_table h

-- ---- no constraint permits a begin

abbrev bars_begins : Entry → Bool
bars_begins e = not (begins e && e.permitted)

pub begins_are_barred : (n : ℕ) → not (begins (entry_at n) && (entry_at n).permitted) ≡ true
begins_are_barred = any_row bars_begins refl refl

-- ---- begins and ends are completed

abbrev completes_transaction : Transaction → Bool
completes_transaction transaction.Begin = true
completes_transaction transaction.BeginConstrained = true
completes_transaction transaction.End = true
completes_transaction _ = false

abbrev completes : Kind → Bool
completes (kind.Transaction t) = completes_transaction t
completes _ = false

abbrev is_kept_simple : Entry → Bool
is_kept_simple e = not (begins e || is_end e) || completes e.kind

simple_rows : (n : ℕ) → is_kept_simple (entry_at n) ≡ true
simple_rows = any_row is_kept_simple refl refl

pub record IsDone (o : Outcome) : Type 0 where
  pub cpu : Cpu
  pub bytes : List ℕ
  pub is : o ≡ Did cpu bytes

transaction_done : (t : Transaction) (n : ℕ) (i : Instr) (c : Cpu) (depth : ℕ)
    → completes_transaction t ≡ true → IsDone (transaction_effect t n i c depth)
unfolding transaction_effect
transaction_done transaction.Begin n i c depth h = record { cpu = _; bytes = _; is = refl }
transaction_done transaction.BeginConstrained n i c depth h = record { cpu = _; bytes = _; is = refl }
transaction_done transaction.End n i c depth h = record { cpu = _; bytes = _; is = refl }
transaction_done transaction.Abort n i c depth h = absurd (true≢false (sym h))
transaction_done transaction.ExtractDepth n i c depth h = absurd (true≢false (sym h))
transaction_done transaction.StoreLasting n i c depth h = absurd (true≢false (sym h))
transaction_done transaction.Assist n i c depth h = absurd (true≢false (sym h))

kind_done : (k : Kind) (n : ℕ) (i : Instr) (c : Cpu) (depth : ℕ) (bytes : List ℕ) → completes k ≡ true
    → IsDone (effect k n i c depth bytes)
kind_done (kind.General g) n i c depth bytes h = absurd (true≢false (sym h))
kind_done (kind.Storage s) n i c depth bytes h = absurd (true≢false (sym h))
kind_done (kind.Branch b) n i c depth bytes h = absurd (true≢false (sym h))
kind_done (kind.Transaction t) n i c depth bytes h = transaction_done t n i c depth h

-- a begin and an end are always completed
pub role_done : (i : Instr) (c : Cpu) (depth : ℕ) (bytes : List ℕ)
    → (begins (entry_at i.op.number) || is_end (entry_at i.op.number)) ≡ true
    → IsDone (one i c depth bytes)
unfolding kind_at
role_done i c depth bytes h =
    kind_done (kind_at i.op.number) (length_of i) i c depth bytes
    (implied (begins (entry_at i.op.number) || is_end (entry_at i.op.number)) _ (simple_rows i.op.number) h)
