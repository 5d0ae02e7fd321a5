-- Only the first operand of an instruction is ever stored into, and its new bytes are found there.
use Rattle.std.proofs.Common.{◌≡◌, ℕ, zero, suc, ◌+◌, ◌≤◌, Bool, true, false, List, [], ◌∷◌, ◌++◌, Option}
use Rattle.std.proofs.Common.{Some, None, refl, sym, ap, subst, ◌∙◌, arith, length, take, drop}
use Rattle.std.specs.Prelude.{cond, map, get_or, All, slice_get}
use Rattle.std.proofs.lemmas.List.{length-take-le, append_assoc, append-nil}
use Rattle.std.proofs.lemmas.List.Elements.{All-head}
use Rattle.std.proofs.Math.Seq.{drop-append_seam, take-append_seam}
use Rattle.z_regs.specs.Cpu.{Cpu}
use Rattle.z_regs.specs.declared.ranges.Range.{Range}
use Rattle.z_instr.specs.declared.instr.Instr.{Instr}
use Rattle.z_instr.specs.declared.operand.Operands.{Operands}
use Rattle.z_instr.specs.declared.operand.Operands.TheVariants.{Absent, Fetched, Stored, FetchedMany}
use Rattle.z_instr.specs.declared.operand.Operands.TheVariants.{StoredMany, FetchedSelected, StoredSelected}
use Rattle.z_instr.specs.declared.operand.Operands.TheVariants.{StoredAndFetched, BothFetched}
use Rattle.z_instr.specs.Operands.{Span, span, spans_in, selects, first_address}
use Rattle.z_instr.specs.Table.{entry_at}
use Rattle.z_touch.specs.Refusals.{span_of, range_of}
use Rattle.z_effect.specs.After.{AreInside, written, with_stored, range_at, touched}
use Rattle.z_effect.specs.Outcome.{Outcome, Did, Overflowed, Divides, Aborts}
use Rattle.z_instr.specs.declared.kind.Kind.{Kind}
use Rattle.z_instr.specs.declared.kind.Kind.TheVariants as kind
use Rattle.z_instr.specs.declared.kind.Transaction.{Transaction}
use Rattle.z_instr.specs.declared.kind.Transaction.TheVariants as transaction
use Rattle.z_instr.specs.Kinds.{operands_of}
use Rattle.z_instr.specs.Table.{kind_at}
use Rattle.z_effect.specs.One.{one, effect, length_of}
use Rattle.z_effect.specs.TransactionEffect.{transaction_effect}
use Rattle.z_instr.proofs.TableFacts.{operands_at}
use Rattle.z_regs.specs.Absolute.{IsAccessible}
use Rattle.store_cache.specs.Overlay.{Store}
use Rattle.tx_serial.specs.Fate.{operands}
use Rattle.tx_serial.specs.Flat.{Storage, operand_stores, operand_bytes, stores_at, laid_over}
use Rattle.tx_serial.specs.Flat.{with_bytes_at}
use Rattle.tx_serial.proofs.StoredBytes.{Fills, one_fills, stored_size, touched_size}
use Rattle.tx_serial.proofs.StoredBytes.{length-operand_bytes}
use Rattle.tx_attempt.specs.declared.performing.Ended.{Ended}
use Rattle.tx_attempt.specs.declared.performing.Ended.TheVariants as ended
use Rattle.tx_attempt.specs.Performed.{IsLeft, trimmed, outcome_from, first_size, first_bytes}
use Rattle.tx_attempt.specs.Performed.{no_range, transaction_in, is_transaction, lasting_size}
use Rattle.tx_attempt.specs.Performed.{StoresNone, StoresFirst}

-- ---- only the first operand

take-take : (n : ℕ) (bs : List ℕ) → take n (take n bs) ≡ take n bs
take-take zero bs = refl
take-take (suc n) [] = refl
take-take (suc n) (b ∷ bs) = ap (λ rest. b ∷ rest) (take-take n bs)

selected : (b : Bool) (s : Span) → StoresFirst (map range_of (cond b (s ∷ []) []))
selected true s = tt
selected false s = tt

spans-first : (o : Operands) (i : Instr) (general : List ℕ) (code : ℕ)
    → StoresFirst (map range_of (spans_in o i general code))
unfolding spans_in
spans-first Absent i general code = tt
spans-first (Fetched size) i general code = tt
spans-first (Stored size) i general code = tt
spans-first (FetchedMany size) i general code = tt
spans-first (StoredMany size) i general code = tt
spans-first FetchedSelected i general code =
    selected (selects i.mask code) (span (first_address i general) 8 false)
spans-first StoredSelected i general code =
    selected (selects i.mask code) (span (first_address i general) 8 true)
spans-first StoredAndFetched i general code = (refl, tt)
spans-first BothFetched i general code = (refl, tt)

pub operands-first : (i : Instr) (c : Cpu) → StoresFirst (operands i c)
operands-first i c = spans-first (entry_at i.op.number).operands i c.general c.condition

none-size : (rs : List Range) → StoresNone rs → stored_size rs ≡ 0
none-size [] h = refl
none-size (r ∷ rs) h =
    let rest = none-size rs h.1 in
    let here : cond r.store r.length 0 ≡ 0 = ap (λ b. cond b r.length 0) h.0 in
    omega arith

pub first-size : (rs : List Range) → StoresFirst rs → stored_size rs ≡ first_size rs
first-size [] h = refl
first-size (r ∷ rs) h = let rest = none-size rs h in omega arith

-- ---- what is found there

pub none-written : (rs : List Range) (bytes s : List ℕ) → StoresNone rs
    → with_stored (map span_of rs) bytes s ≡ s
none-written [] bytes s h = refl
none-written (r ∷ rs) bytes s h =
    ap (λ b. cond b (with_stored (map span_of rs) (drop r.length bytes)
    (written s r.first (take r.length bytes))) (with_stored (map span_of rs) bytes s)) h.0
    ∙ none-written rs bytes s h.1

-- bytes that were written are found
written-at : (s : List ℕ) (first : ℕ) (bytes : List ℕ) → first ≤ length s
    → take (length bytes) (drop first (written s first bytes)) ≡ bytes
written-at s first bytes h =
    let ahead : length (take first s) ≡ first = length-take-le first s h in
    ap (λ (t : List ℕ). take (length bytes) (drop first t))
    (append_assoc (take first s) bytes (drop (first + length bytes) s))
    ∙ ap (λ n. take (length bytes) (drop n (take first s ++ (bytes ++ drop (first + length bytes) s))))
    (sym ahead)
    ∙ ap (take (length bytes)) (drop-append_seam (take first s) (bytes ++ drop (first + length bytes) s))
    ∙ take-append_seam bytes (drop (first + length bytes) s)

first-written : (r : Range) (rs : List Range) (bytes s : List ℕ) (b : Bool) → r.store ≡ b → StoresNone rs
    → r.first + r.length ≤ length s → cond b r.length 0 ≤ length bytes
    → cond b (range_at (with_stored (span_of r ∷ map span_of rs) bytes s) r.first r.length) []
    ≡ take (cond b r.length 0) bytes
first-written r rs bytes s false e none inside fills = refl
first-written r rs bytes s true e none inside fills =
    let size : length (take r.length bytes) ≡ r.length = length-take-le r.length bytes fills in
    let within : r.first ≤ length s = omega (arith, inside) in
    let there : with_stored (span_of r ∷ map span_of rs) bytes s ≡ written s r.first (take r.length bytes) =
    ap (λ b. cond b (with_stored (map span_of rs) (drop r.length bytes)
    (written s r.first (take r.length bytes))) (with_stored (map span_of rs) bytes s)) e
    ∙ none-written rs (drop r.length bytes) (written s r.first (take r.length bytes)) none in
    ap (λ (t : List ℕ). range_at t r.first r.length) there
    ∙ ap (λ n. take n (drop r.first (written s r.first (take r.length bytes)))) (sym size)
    ∙ written-at s r.first (take r.length bytes) within

pub first-stored : (rs : List Range) (bytes s : List ℕ) → StoresFirst rs → AreInside (map span_of rs) s
    → first_size rs ≤ length bytes
    → first_bytes rs (with_stored (map span_of rs) bytes s) ≡ take (first_size rs) bytes
first-stored [] bytes s first inside fills = refl
first-stored (r ∷ rs) bytes s first inside fills =
    first-written r rs bytes s r.store refl first inside.0 fills

small-at : (b : Bool) (n : ℕ) → n ≤ 256 → cond b n 0 ≤ 256
small-at true n h = h
small-at false n h = omega arith

pub first-small : (prefix : Option ℕ) (rs : List Range) → All (IsAccessible prefix) rs → first_size rs ≤ 256
first-small prefix [] h = omega arith
first-small prefix (r ∷ rs) h =
    small-at r.store r.length (All-head (IsAccessible prefix) r rs h).most

-- ---- the outcome of what was told, left and stored

pub left-outcome : (o : Outcome) (rs : List Range) (old new : Cpu) (s t stored : List ℕ) (e : Ended)
    → StoresFirst rs → AreInside (map span_of rs) s → Fills (first_size rs) o → IsLeft o rs old new s t e
    → take (first_size rs) stored ≡ first_bytes rs t
    → outcome_from e new (take (first_size rs) stored) ≡ trimmed (first_size rs) o
left-outcome (Did c bytes) rs old new s t stored e first inside fills left es =
    let bs : take (first_size rs) stored ≡ take (first_size rs) bytes =
    es ∙ ap (first_bytes rs) left.view ∙ first-stored rs bytes s first inside fills in
    λ i. outcome_from (left.told i) (left.image i) (bs i)
left-outcome (Overflowed c bytes) rs old new s t stored e first inside fills left es =
    let bs : take (first_size rs) stored ≡ take (first_size rs) bytes =
    es ∙ ap (first_bytes rs) left.view ∙ first-stored rs bytes s first inside fills in
    λ i. outcome_from (left.told i) (left.image i) (bs i)
left-outcome Divides rs old new s t stored e first inside fills left es =
    ap (λ (x : Ended). outcome_from x new (take (first_size rs) stored)) left.told
left-outcome (Aborts code) rs old new s t stored e first inside fills left es =
    ap (λ (x : Ended). outcome_from x new (take (first_size rs) stored)) left.told

-- ---- stores by the first bytes alone

pub none-stores : (prefix : Option ℕ) (rs : List Range) (bytes : List ℕ) → StoresNone rs
    → operand_stores prefix rs bytes ≡ []
none-stores prefix [] bytes h = refl
none-stores prefix (r ∷ rs) bytes h =
    ap (λ b. cond b (stores_at prefix r.first (take r.length bytes)
    ++ operand_stores prefix rs (drop r.length bytes))
    (operand_stores prefix rs bytes)) h.0 ∙ none-stores prefix rs bytes h.1

stores-by : (prefix : Option ℕ) (r : Range) (rs : List Range) (bytes : List ℕ) (b : Bool) → StoresNone rs
    → cond b (stores_at prefix r.first (take r.length bytes) ++ operand_stores prefix rs
    (drop r.length bytes))
    (operand_stores prefix rs bytes)
    ≡ stores_at prefix r.first (take (cond b r.length 0) bytes)
stores-by prefix r rs bytes true none =
    ap (λ (ss : List Store). stores_at prefix r.first (take r.length bytes) ++ ss)
    (none-stores prefix rs (drop r.length bytes) none)
    ∙ append-nil (stores_at prefix r.first (take r.length bytes))
stores-by prefix r rs bytes false none = none-stores prefix rs bytes none

-- all stores are those of the first operand
pub first-stores : (prefix : Option ℕ) (r : Range) (rs : List Range) (bytes : List ℕ) → StoresNone rs
    → operand_stores prefix (r ∷ rs) bytes ≡ stores_at prefix r.first (take (first_size (r ∷ rs)) bytes)
first-stores prefix r rs bytes none = stores-by prefix r rs bytes r.store none

-- and the first bytes tell them
pub trimmed-stores : (prefix : Option ℕ) (rs : List Range) (bytes : List ℕ) → StoresFirst rs
    → operand_stores prefix rs (take (first_size rs) bytes) ≡ operand_stores prefix rs bytes
trimmed-stores prefix [] bytes first = refl
trimmed-stores prefix (r ∷ rs) bytes first =
    first-stores prefix r rs (take (first_size (r ∷ rs)) bytes) first
    ∙ ap (stores_at prefix r.first) (take-take (first_size (r ∷ rs)) bytes)
    ∙ sym (first-stores prefix r rs bytes first)

-- ---- storage after the stores

pub nothing-laid : (prefix : Option ℕ) (rs : List Range) (bytes : List ℕ) (s : Storage) → length rs ≡ 0
    → s ≡ laid_over s (operand_stores prefix rs (take (first_size rs) bytes))
unfolding laid_over
nothing-laid prefix [] bytes s h = refl
nothing-laid prefix (r ∷ rs) bytes s h = absurd (omega (arith, h))

pub unstored-laid : (prefix : Option ℕ) (rs : List Range) (r : Range) (bytes : List ℕ) (s : Storage)
    → slice_get rs 0 ≡ Some r → r.store ≡ false → StoresFirst rs
    → s ≡ laid_over s (operand_stores prefix rs (take (first_size rs) bytes))
unfolding laid_over
unstored-laid prefix [] r bytes s get e first = absurd (cc)
unstored-laid prefix (q ∷ rs) r bytes s get e first =
    let same : q ≡ r = cc in
    let store : q.store ≡ false = ap (λ (x : Range). x.store) same ∙ e in
    sym (ap (laid_over s) (none-stores prefix (q ∷ rs) (take (first_size (q ∷ rs)) bytes) (store, first)))

pub first-laid : (prefix : Option ℕ) (rs : List Range) (r : Range) (bytes : List ℕ) (s t : Storage)
    → slice_get rs 0 ≡ Some r → r.store ≡ true → StoresFirst rs
    → t ≡ with_bytes_at prefix r.first (take r.length bytes) s
    → t ≡ laid_over s (operand_stores prefix rs (take (first_size rs) bytes))
first-laid prefix [] r bytes s t get e first h = absurd (cc)
first-laid prefix (q ∷ rs) r bytes s t get e first h =
    let same : r ≡ q = cc in
    let store : q.store ≡ true = sym (ap (λ (x : Range). x.store) same) ∙ e in
    let count : r.length ≡ cond q.store q.length 0 =
    ap (λ (x : Range). x.length) same ∙ ap (λ b. cond b q.length 0) (sym store) in
    h ∙ (λ i. laid_over s (stores_at prefix (same i).first (take (count i) bytes)))
    ∙ ap (laid_over s) (sym (first-stores prefix q rs bytes first))
    ∙ ap (laid_over s) (sym (trimmed-stores prefix (q ∷ rs) bytes first))

-- ---- an instruction that is not about transactions

pub plain-outcome : (i : Instr) (c new : Cpu) (depth : ℕ) (prefix : Option ℕ) (seen : Storage)
    (need : List Range) (s t stored : List ℕ) (e : Ended) → need ≡ operands i c
    → AreInside (map span_of need) s → touched (map span_of need) s ≡ operand_bytes prefix seen need
    → IsLeft (one i c depth (touched (map span_of need) s)) need c new s t e
    → take (first_size need) stored ≡ first_bytes need t
    → outcome_from e new (take (first_size need) stored)
    ≡ trimmed (first_size need) (one i c depth (operand_bytes prefix seen need))
plain-outcome i c new depth prefix seen need s t stored e en inside fetched left es =
    let bytes = operand_bytes prefix seen need in
    let size : length bytes ≡ touched_size (operands i c) =
    length-operand_bytes prefix seen need ∙ ap touched_size en in
    let first : StoresFirst need = subst StoresFirst (sym en) (operands-first i c) in
    let count : stored_size (operands i c) ≡ first_size need =
    first-size (operands i c) (operands-first i c) ∙ ap first_size (sym en) in
    left-outcome (one i c depth bytes) need c new s t stored e first inside
    (subst (λ n. Fills n (one i c depth bytes)) count (one_fills i c depth bytes size))
    (subst (λ (bs : List ℕ). IsLeft (one i c depth bs) need c new s t e) fetched left) es

-- ---- transaction instructions

some-transaction : (k : Kind) (t : Transaction) → transaction_in k ≡ Some t → k ≡ kind.Transaction t
some-transaction (kind.Transaction u) t h = let same : u ≡ t = cc in ap kind.Transaction same
some-transaction (kind.General g) t h = absurd (cc)
some-transaction (kind.Storage s) t h = absurd (cc)
some-transaction (kind.Branch b) t h = absurd (cc)

lasting-operands : (t : Transaction) (i : Instr) (general : List ℕ) (code : ℕ)
    → first_size (map range_of (spans_in (operands_of (kind.Transaction t)) i general code)) ≡ lasting_size t
unfolding spans_in
lasting-operands transaction.Begin i general code = refl
lasting-operands transaction.BeginConstrained i general code = refl
lasting-operands transaction.End i general code = refl
lasting-operands transaction.Abort i general code = refl
lasting-operands transaction.ExtractDepth i general code = refl
lasting-operands transaction.StoreLasting i general code = refl
lasting-operands transaction.Assist i general code = refl

trimmed-again : (e : Ended) (c : Cpu) (n : ℕ) (bs : List ℕ)
    → outcome_from e c (take n bs) ≡ trimmed n (outcome_from e c (take n bs))
trimmed-again ended.Completed c n bs = ap (Did c) (sym (take-take n bs))
trimmed-again ended.Exceeded c n bs = ap (Overflowed c) (sym (take-take n bs))
trimmed-again ended.Suppressed c n bs = refl
trimmed-again (ended.Aborting code) c n bs = refl

-- what a transaction instruction stores, it stores into its first operand
lasting-first : (i : Instr) (c : Cpu) (t : Transaction) (need : List Range) → need ≡ operands i c
    → transaction_in (kind_at i.op.number) ≡ Some t → first_size need ≡ lasting_size t
lasting-first i c t need en ek =
    let same : kind_at i.op.number ≡ kind.Transaction t = some-transaction (kind_at i.op.number) t ek in
    let rows : (entry_at i.op.number).operands ≡ operands_of (kind.Transaction t) =
    operands_at i.op.number i.op.known ∙ ap operands_of same in
    ap first_size en
    ∙ ap (λ (o : Operands). first_size (map range_of (spans_in o i c.general c.condition))) rows
    ∙ lasting-operands t i c.general c.condition

-- no more of a number
within-first : (b : Bool) (n : ℕ) → cond b n 0 ≤ n
within-first true n = omega arith
within-first false n = omega arith

-- no more is stored than the first operand has
pub first-within : (rs : List Range) → first_size rs ≤ (get_or rs 0 no_range).length
first-within [] = omega arith
first-within (r ∷ rs) = within-first r.store r.length

-- so there is room for it where there is for the first operand
pub lasting-room : (i : Instr) (c : Cpu) (t : Transaction) (need : List Range) (n : ℕ) → need ≡ operands i c
    → transaction_in (kind_at i.op.number) ≡ Some t → (get_or need 0 no_range).length ≤ n → lasting_size t ≤ n
lasting-room i c t need n en ek h =
    let size = lasting-first i c t need en ek in
    let within = first-within need in
    omega (arith, size, within, h)

pub transaction-outcome : (i : Instr) (c new : Cpu) (depth d : ℕ) (bytes stored : List ℕ) (t : Transaction)
    (need : List Range) (e : Ended) → need ≡ operands i c → transaction_in (kind_at i.op.number) ≡ Some t
    → d ≡ depth
    → outcome_from e new (take (lasting_size t) stored) ≡ transaction_effect t (length_of i) i c d
    → outcome_from e new (take (first_size need) stored) ≡ trimmed (first_size need) (one i c depth bytes)
transaction-outcome i c new depth d bytes stored t need e en ek ed h =
    let same : kind_at i.op.number ≡ kind.Transaction t = some-transaction (kind_at i.op.number) t ek in
    let size : first_size need ≡ lasting_size t = lasting-first i c t need en ek in
    let whole : outcome_from e new (take (first_size need) stored) ≡ one i c depth bytes =
    ap (λ n. outcome_from e new (take n stored)) size ∙ h
    ∙ ap (transaction_effect t (length_of i) i c) ed
    ∙ sym (ap (λ (k : Kind). effect k (length_of i) i c depth bytes) same) in
    trimmed-again e new (first_size need) stored ∙ ap (trimmed (first_size need)) whole

pub none-transaction : (k : Kind) → transaction_in k ≡ None → is_transaction k ≡ false
none-transaction (kind.Transaction t) h = absurd (cc)
none-transaction (kind.General g) h = refl
none-transaction (kind.Storage s) h = refl
none-transaction (kind.Branch b) h = refl
