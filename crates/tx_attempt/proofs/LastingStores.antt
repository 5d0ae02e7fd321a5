-- What NTSTG stores is the value of its register.
use Rattle.std.proofs.Common.{◌≡◌, ℕ, Bool, true, false, List, refl, sym, ap, ◌∙◌, arith, take}
use Rattle.std.specs.Prelude.{◌||◌, not}
use Rattle.std.proofs.lemmas.Bool.{true≢false}
use Rattle.std.proofs.lemmas.List.{take_all}
use Rattle.byteorder.specs.Endian.{big_bytes}
use Rattle.byteorder.specs.Numbers.{length-bytes_high_first}
use Rattle.z_regs.specs.Cpu.{Cpu}
use Rattle.z_regs.specs.declared.ranges.Range.{Range}
use Rattle.z_instr.specs.declared.instr.Instr.{Instr}
use Rattle.z_instr.specs.Table.{Entry, entry_at}
use Rattle.z_instr.specs.declared.kind.Kind.{Kind}
use Rattle.z_instr.specs.declared.kind.Kind.TheVariants as kind
use Rattle.z_instr.specs.declared.kind.Transaction.{Transaction}
use Rattle.z_instr.specs.declared.kind.Transaction.TheVariants as transaction
use Rattle.z_instr.specs.Table.{kind_at}
use Rattle.z_effect.specs.One.{one, effect, length_of}
use Rattle.z_effect.specs.Outcome.{Did}
use Rattle.z_effect.specs.Registers.{register, advanced}
use Rattle.z_effect.specs.TransactionEffect.{transaction_effect}
use Rattle.z_instr.specs.Roles.{stores_lastingly}
use Rattle.tx_progress.proofs.Rows.{any_row}
use Rattle.tx_attempt.specs.declared.performing.Ended.{Ended}
use Rattle.tx_attempt.specs.Gathered.{IsDoubleword}
use Rattle.tx_attempt.specs.Gathered.{IsStoredDoubleword}
use Rattle.tx_attempt.specs.Performed.{outcome_from, trimmed, first_size}
use Rattle.tx_attempt.proofs.Laying.{ended-so, stored_in}
use Rattle.z_instr.proofs.PlainImmediates.{implied}

abbrev is_lasting : Transaction → Bool
is_lasting transaction.StoreLasting = true
is_lasting _ = false

abbrev lasting_kind : Kind → Bool
lasting_kind (kind.Transaction t) = is_lasting t
lasting_kind _ = false

abbrev lasting_row : Entry → Bool
lasting_row e = not (stores_lastingly e) || lasting_kind e.kind

lasting-rows : (n : ℕ) → lasting_row (entry_at n) ≡ true
lasting-rows = any_row lasting_row refl refl

one-lasting : (t : Transaction) → is_lasting t ≡ true → t ≡ transaction.StoreLasting
one-lasting transaction.StoreLasting h = refl
one-lasting transaction.Begin h = absurd (true≢false (sym h))
one-lasting transaction.BeginConstrained h = absurd (true≢false (sym h))
one-lasting transaction.End h = absurd (true≢false (sym h))
one-lasting transaction.Abort h = absurd (true≢false (sym h))
one-lasting transaction.ExtractDepth h = absurd (true≢false (sym h))
one-lasting transaction.Assist h = absurd (true≢false (sym h))

lasting-so : (k : Kind) → lasting_kind k ≡ true → k ≡ kind.Transaction transaction.StoreLasting
lasting-so (kind.Transaction t) h = ap kind.Transaction (one-lasting t h)
lasting-so (kind.General g) h = absurd (true≢false (sym h))
lasting-so (kind.Storage s) h = absurd (true≢false (sym h))
lasting-so (kind.Branch b) h = absurd (true≢false (sym h))

lasting-outcome : (i : Instr) (c : Cpu) (depth : ℕ) (bytes : List ℕ)
    → stores_lastingly (entry_at i.op.number) ≡ true
    → one i c depth bytes ≡ Did (advanced (length_of i) c) (big_bytes 8 (register c i.r1))
unfolding transaction_effect kind_at
lasting-outcome i c depth bytes h =
    ap (λ (k : Kind). effect k (length_of i) i c depth bytes)
    (lasting-so (kind_at i.op.number)
    (implied (stores_lastingly (entry_at i.op.number)) _ (lasting-rows i.op.number) h))

stored-by : (e : Ended) (new : Cpu) (xs all : List ℕ) (x : Cpu) (n : ℕ)
    → outcome_from e new xs ≡ trimmed n (Did x all) → xs ≡ take n all
stored-by e new xs all x n h =
    let same = ended-so e new xs n (Did x all) h in
    ap stored_in (sym (ap (λ (y : Ended). outcome_from y new xs) same) ∙ h)

pub lasting-doubleword : (i : Instr) (c new : Cpu) (depth : ℕ) (bytes stored : List ℕ) (need : List Range)
    (e : Ended) → outcome_from e new (take (first_size need) stored)
    ≡ trimmed (first_size need) (one i c depth bytes)
    → stores_lastingly (entry_at i.op.number) ≡ true → IsStoredDoubleword need
    → IsDoubleword need stored (register c i.r1)
lasting-doubleword i c new depth bytes stored need e h is d =
    let size : first_size need ≡ 8 = ap first_size d.is in
    let all = big_bytes 8 (register c i.r1) in
    let count = length-bytes_high_first 8 (register c i.r1) in
    let found : take (first_size need) stored ≡ take (first_size need) all =
    stored-by e new (take (first_size need) stored) all (advanced (length_of i) c) (first_size need)
    (h ∙ ap (trimmed (first_size need)) (lasting-outcome i c depth bytes is)) in
    record {
      first = d.first;
      is = d.is;
      boundary = d.boundary;
      bytes_are = ap (λ n. take n stored) (sym size) ∙ found ∙ ap (λ n. take n all) size
          ∙ take_all 8 all (omega (arith, count));
    }
