-- What is kept of a CPU after an instruction inside a transaction.
use Rattle.std.proofs.Common.{◌≡◌, ℕ, ◌+◌, ◌-◌, ◌<◌, Option, Bool, true, false, List, [], ◌∷◌, ◌++◌, refl, sym}
use Rattle.std.proofs.Common.{ap, subst, ◌∙◌, arith, length, take}
use Rattle.std.specs.Prelude.{if◌then◌else◌, nat_lt, nat_eq, ◌&&◌, ◌||◌, not, map}
use Rattle.std.proofs.lemmas.Bool.{true≢false, or_right}
use Rattle.std.proofs.lemmas.Bool.Decides.{nat_tests}
use Rattle.z_regs.specs.Cpu.{Cpu}
use Rattle.z_regs.specs.declared.ranges.Range.{Range}
use Rattle.z_instr.specs.declared.instr.Instr.{Instr}
use Rattle.z_instr.specs.declared.operand.Operands.{Operands}
use Rattle.z_instr.specs.declared.operand.Operands.TheVariants.{Absent}
use Rattle.z_instr.specs.Operands.{spans_in}
use Rattle.z_instr.specs.Roles.{begins, is_end}
use Rattle.z_instr.specs.Table.{Entry, entry_at, kind_at}
use Rattle.z_touch.specs.Refusals.{range_of}
use Rattle.z_effect.specs.After.{cpu_after, exception}
use Rattle.z_effect.specs.Beginning.{begin_of}
use Rattle.z_effect.specs.One.{length_of}
use Rattle.z_effect.specs.Outcome.{Outcome, Did, Overflowed, Divides, Aborts}
use Rattle.tx_control.specs.declared.begins.Begin.{Begin}
use Rattle.tx_control.specs.declared.causes.Why.{Why}
use Rattle.tx_control.specs.declared.causes.Why.TheVariants.{Tabort}
use Rattle.tx_control.specs.Codes.{fixed_point_overflow_code, fixed_point_divide_code}
use Rattle.store_cache.specs.Entries.{stores_of}
use Rattle.store_cache.specs.Overlay.{Store, Overlay}
use Rattle.tx_serial.specs.Fate.{operands, cause_in}
use Rattle.tx_serial.specs.Flat.{Storage, operand_stores}
use Rattle.tx_progress.proofs.Rows.{any_row, role_done}
use Rattle.tx_progress.specs.Progress.{Progress, resting, advanced, laying, seen_through}
use Rattle.tx_progress.specs.Local.{Beside}
use Rattle.tx_progress.specs.Doing.{Executed, inside, closed_by, going_on}
use Rattle.tx_progress.specs.Trial.{outcome_by}
use Rattle.tx_progress.specs.declared.done.Done.{Done}
use Rattle.tx_progress.specs.declared.done.Done.TheVariants as done
use Rattle.tx_attempt.specs.declared.performing.Ended.TheVariants as ended
use Rattle.tx_attempt.specs.Advancing.{MayStep}
use Rattle.tx_attempt.specs.Performed.{outcome_from, trimmed, first_size, is_transaction, StoresFirst}
use Rattle.tx_attempt.specs.Tracked.{Tracked, progress}
use Rattle.tx_cpu.specs.Parts.{Parts, local_of, beside}
use Rattle.tx_attempt.specs.Storages.{storage_of}
use Rattle.tx_attempt.proofs.Laying.{stored_in}
use Rattle.tx_attempt.proofs.Stepping.{ends-no-last}
use Rattle.tx_cpu.proofs.Settling.{local-rests}
use Rattle.tx_cpu.specs.Going.{MayGo}
use Rattle.tx_attempt.proofs.Stored.{trimmed-stores}
use Rattle.tx_serial.proofs.FreeOperands.{is_absent, absent}

-- ---- what the table says of TEND

abbrev ends_plain : Entry → Bool
ends_plain e = not (is_end e) || (not (begins e) && is_absent e.operands)

where-end : (a b c : Bool) → (not a || (not b && c)) ≡ true → a ≡ true → (b ≡ false) × (c ≡ true)
where-end true true c h e = absurd (true≢false (sym h))
where-end true false c h e = (refl, h)
where-end false b c h e = absurd (true≢false (sym e))

end-row : (n : ℕ) → is_end (entry_at n) ≡ true
    → (begins (entry_at n) ≡ false) × (is_absent (entry_at n).operands ≡ true)
end-row n = where-end (is_end (entry_at n)) _ _ (any_row ends_plain refl refl n)

pub end-begins-none : (i : Instr) → is_end (entry_at i.op.number) ≡ true
    → begins (entry_at i.op.number) ≡ false
end-begins-none i h = (end-row i.op.number h).0

no-ranges : (o : Operands) (i : Instr) (general : List ℕ) (code : ℕ) → o ≡ Absent
    → map range_of (spans_in o i general code) ≡ []
unfolding spans_in
no-ranges o i general code e = ap (λ (q : Operands). map range_of (spans_in q i general code)) e

pub end-bare : (i : Instr) (c : Cpu) → is_end (entry_at i.op.number) ≡ true → operands i c ≡ []
end-bare i c h =
    no-ranges (entry_at i.op.number).operands i c.general c.condition
    (absent _ (end-row i.op.number h).1)

-- ---- the attempt goes on

pub live-so : (n : ℕ) → 0 < n → nat_lt 0 n ≡ true
live-so n h = grind (arith, nat_tests)

-- with an attempt, the CPU as the history leaves it is the one that was saved
pub cpu-saved : (p : Parts) → nat_lt 0 p.attempt.count ≡ true → (local_of p).cpu ≡ p.saved
cpu-saved p h = ap (λ b. if b then p.saved else p.image) h

goes-on : (p : Parts) (image : Cpu) (t : Tracked) (q : Progress) (old : List ℕ) (told : Done)
    → nat_lt 0 p.attempt.count ≡ true → nat_lt 0 t.count ≡ true → progress t image ≡ q
    → ◌≡◌ {A = Executed} (record {
      after = beside (record p { image = image; attempt = t }) old;
      told = told;
    }) (record { after = going_on q (beside p old); told = told })
goes-on p image t q old told live more e =
    let there : (if nat_lt 0 t.count then p.saved else image) ≡ (local_of p).cpu =
    ap (λ b. if b then p.saved else image) more ∙ sym (cpu-saved p live) in
    λ j. record {
      after = record {
        local = record { cpu = there j; attempt = e j; pending = p.pending; waiting = p.waiting };
        storage = storage_of old;
      };
      told = told;
    }

abbrev next_by : Parts → Instr → List Range → Cpu → List ℕ → Progress
next_by p i need c bytes =
    advanced i need c (operand_stores p.image.prefix need bytes) (progress p.attempt p.image)

-- the attempt has one instruction more, as far as the stores of the first operand tell
abbrev pub IsNext : Parts → Instr → List Range → List ℕ → Tracked → Type 0
IsNext p i need stored t = (x : Cpu) → progress t x
    ≡ advanced i need x (operand_stores p.image.prefix need (take (first_size need) stored))
    (progress p.attempt p.image)

-- so it is by the prefix that the CPU had before
pub next-known : (p : Parts) (i : Instr) (need : List Range) (stored : List ℕ) (t : Tracked)
    (prefix : Option ℕ) → prefix ≡ p.image.prefix
    → ((x : Cpu) → progress t x
    ≡ advanced i need x (operand_stores prefix need (take (first_size need) stored))
    (progress p.attempt p.image))
    → IsNext p i need stored t
next-known p i need stored t prefix e h x =
    h x ∙ ap (λ (q : Option ℕ). advanced i need x (operand_stores q need (take (first_size need) stored))
    (progress p.attempt p.image)) e

next-so : (p : Parts) (i : Instr) (need : List Range) (c image : Cpu) (bytes stored : List ℕ) (t : Tracked)
    → StoresFirst need → image ≡ c → take (first_size need) stored ≡ take (first_size need) bytes
    → IsNext p i need stored t → progress t image ≡ next_by p i need c bytes
next-so p i need c image bytes stored t first ei es ea =
    let q = progress p.attempt p.image in
    ea image
    ∙ (λ j. advanced i need (ei j) (operand_stores p.image.prefix need (es j)) q)
    ∙ ap (λ (ss : List Store). advanced i need c ss q) (trimmed-stores p.image.prefix need bytes first)

closed-open : (q : Progress) (nest : List Begin) (b : Beside) → 0 < length nest
    → closed_by q nest b ≡ record { after = going_on q b; told = done.Stepped }
closed-open q [] b h = absurd (omega (arith, h))
closed-open q (outermost ∷ inner) b h = refl

pub stepped-is : (p : Parts) (i : Instr) (need : List Range) (o : Outcome) (image : Cpu) (stored : List ℕ)
    (t : Tracked) (old : List ℕ) → nat_lt 0 p.attempt.count ≡ true → 0 < t.count → 0 < length t.nest
    → StoresFirst need
    → outcome_from ended.Completed image (take (first_size need) stored) ≡ trimmed (first_size need) o
    → IsNext p i need stored t
    → ◌≡◌ {A = Executed} (record {
      after = beside (record p { image = image; attempt = t }) old;
      told = done.Stepped;
    }) (inside i need (beside p old) o)
stepped-is p i need (Did c bytes) image stored t old live more opens first eo ea =
    let next = next_by p i need c bytes in
    let e = next-so p i need c image bytes stored t first (ap (cpu_after image) eo) (ap stored_in eo) ea in
    goes-on p image t next old done.Stepped live (live-so t.count more) e
    ∙ sym (closed-open next next.nest (beside p old)
    (subst (λ (q : Progress). 0 < length q.nest) e opens))
stepped-is p i need (Overflowed c bytes) image stored t old live more opens first eo ea = absurd (cc)
stepped-is p i need Divides image stored t old live more opens first eo ea = absurd (cc)
stepped-is p i need (Aborts code) image stored t old live more opens first eo ea = absurd (cc)

-- an instruction that goes, and is not about transactions, is one more step of a live attempt
pub may-step : (p : Parts) (i : Instr) (need : List Range) → nat_lt 0 p.attempt.count ≡ true
    → (0 < p.attempt.count → 0 < length p.attempt.nest) → is_transaction (kind_at i.op.number) ≡ false
    → MayGo p.attempt p.image i need → MayStep p.attempt p.image.prefix need
may-step p i need live opens plain goes =
    let some : 0 < p.attempt.count = grind (arith, nat_tests, live) in
    record {
      instr = i;
      cpu = p.image;
      plain = plain;
      operands_are = goes.operands_are;
      advances = goes.advances (opens some) (ends-no-last i _ plain);
    }

-- ---- the transaction is committed

nest-closed : (b e : Bool) (level : Begin) (nest : List Begin) → b ≡ false → e ≡ true → length nest ≡ 1
    → (if b then nest ++ level ∷ [] else if e then take (length nest - 1) nest else nest) ≡ []
nest-closed true e level nest eb ee one = absurd (true≢false eb)
nest-closed false false level nest eb ee one = absurd (true≢false (sym ee))
nest-closed false true level nest eb ee one =
    let none : length nest - 1 ≡ 0 = omega (arith, one) in ap (λ n. take n nest) none

committed-by : (p : Parts) (i : Instr) (need : List Range) (c image : Cpu) (bytes : List ℕ) (t : Tracked)
    (old new : List ℕ) (n : ℕ) → is_end (entry_at i.op.number) ≡ true → length p.attempt.nest ≡ 1
    → need ≡ [] → image ≡ c → ((x : Cpu) → progress t x ≡ resting x)
    → storage_of new ≡ seen_through (stores_of p.attempt.stores).overlay (storage_of old)
    → n ≡ p.attempt.count + 1
    → ◌≡◌ {A = Executed} (record {
      after = beside (record p { image = image; attempt = t }) new;
      told = done.Committed n;
    }) (inside i need (beside p old) (Did c bytes))
committed-by p i need c image bytes t old new n ends one en ei rests es ec =
    let next = next_by p i need c bytes in
    let closed : next.nest ≡ [] =
    nest-closed (begins (entry_at i.op.number)) (is_end (entry_at i.op.number))
    (begin_of i p.image.general) p.attempt.nest (end-begins-none i ends) ends one in
    let same : (stores_of p.attempt.stores).overlay ≡ next.overlay =
    ap (λ (rs : List Range). laying (stores_of p.attempt.stores).overlay
    (operand_stores p.image.prefix rs bytes)) (sym en) in
    let stored : storage_of new ≡ seen_through next.overlay (storage_of old) =
    es ∙ ap (λ (o : Overlay). seen_through o (storage_of old)) same in
    let local = local-rests image p.saved t p.pending p.waiting rests
    ∙ (λ j. record { cpu = ei j; attempt = resting (ei j); pending = p.pending; waiting = p.waiting }) in
    let whole : ◌≡◌ {A = Executed} (record {
      after = beside (record p { image = image; attempt = t }) new;
      told = done.Committed n;
    }) (closed_by next [] (beside p old)) =
    λ j. record {
      after = record { local = local j; storage = stored j };
      told = done.Committed (ec j);
    } in
    whole ∙ ap (λ (nest : List Begin). closed_by next nest (beside p old)) (sym closed)

pub committed-is : (p : Parts) (i : Instr) (need : List Range) (o : Outcome) (image : Cpu) (stored : List ℕ)
    (t : Tracked) (old new : List ℕ) (n : ℕ) → is_end (entry_at i.op.number) ≡ true
    → length p.attempt.nest ≡ 1 → need ≡ []
    → outcome_from ended.Completed image (take (first_size need) stored) ≡ trimmed (first_size need) o
    → ((x : Cpu) → progress t x ≡ resting x)
    → storage_of new ≡ seen_through (stores_of p.attempt.stores).overlay (storage_of old)
    → n ≡ p.attempt.count + 1
    → ◌≡◌ {A = Executed} (record {
      after = beside (record p { image = image; attempt = t }) new;
      told = done.Committed n;
    }) (inside i need (beside p old) o)
committed-is p i need (Did c bytes) image stored t old new n ends one en eo rests es ec =
    committed-by p i need c image bytes t old new n ends one en (ap (cpu_after image) eo) rests es ec
committed-is p i need (Overflowed c bytes) image stored t old new n ends one en eo rests es ec = absurd (cc)
committed-is p i need Divides image stored t old new n ends one en eo rests es ec = absurd (cc)
committed-is p i need (Aborts code) image stored t old new n ends one en eo rests es ec = absurd (cc)

-- ---- a cause is told by which the transaction has to end

pub exceeded-is : (p : Parts) (i : Instr) (need : List Range) (o : Outcome) (image : Cpu) (stored : List ℕ)
    (t : Tracked) (old : List ℕ) (why : Why) → nat_lt 0 p.attempt.count ≡ true → 0 < t.count
    → StoresFirst need
    → outcome_from ended.Exceeded image (take (first_size need) stored) ≡ trimmed (first_size need) o
    → IsNext p i need stored t → why ≡ cause_in t.nest (exception fixed_point_overflow_code (length_of i))
    → ◌≡◌ {A = Executed} (record {
      after = beside (record p { image = image; attempt = t }) old;
      told = done.Ended why;
    }) (inside i need (beside p old) o)
exceeded-is p i need (Overflowed c bytes) image stored t old why live more first eo ea ew =
    let next = next_by p i need c bytes in
    let e = next-so p i need c image bytes stored t first (ap (cpu_after image) eo) (ap stored_in eo) ea in
    let cause : why ≡ cause_in next.nest (exception fixed_point_overflow_code (length_of i)) =
    ew ∙ ap (λ (q : Progress). cause_in q.nest (exception fixed_point_overflow_code (length_of i))) e in
    goes-on p image t next old (done.Ended why) live (live-so t.count more) e
    ∙ (λ j. record { after = going_on next (beside p old); told = done.Ended (cause j) })
exceeded-is p i need (Did c bytes) image stored t old why live more first eo ea ew = absurd (cc)
exceeded-is p i need Divides image stored t old why live more first eo ea ew = absurd (cc)
exceeded-is p i need (Aborts code) image stored t old why live more first eo ea ew = absurd (cc)

-- nothing has changed
unchanged-is : (p : Parts) (image : Cpu) (old : List ℕ) (told : Done) → nat_lt 0 p.attempt.count ≡ true
    → image ≡ p.image
    → ◌≡◌ {A = Executed} (record { after = beside (record p { image = image }) old; told = told })
    (record { after = beside p old; told = told })
unchanged-is p image old told live ei =
    goes-on p image p.attempt (progress p.attempt p.image) old told live live (ap (progress p.attempt) ei)

pub suppressed-is : (p : Parts) (i : Instr) (need : List Range) (o : Outcome) (image x : Cpu)
    (bytes old : List ℕ) (why : Why) → nat_lt 0 p.attempt.count ≡ true
    → outcome_from ended.Suppressed x bytes ≡ trimmed (first_size need) o → image ≡ cpu_after p.image o
    → why ≡ cause_in p.attempt.nest (exception fixed_point_divide_code (length_of i))
    → ◌≡◌ {A = Executed} (record {
      after = beside (record p { image = image }) old;
      told = done.Ended why;
    }) (inside i need (beside p old) o)
suppressed-is p i need Divides image x bytes old why live eo ei ew =
    unchanged-is p image old (done.Ended why) live ei
    ∙ (λ j. record { after = beside p old; told = done.Ended (ew j) })
suppressed-is p i need (Did c all) image x bytes old why live eo ei ew = absurd (cc)
suppressed-is p i need (Overflowed c all) image x bytes old why live eo ei ew = absurd (cc)
suppressed-is p i need (Aborts code) image x bytes old why live eo ei ew = absurd (cc)

pub aborting-is : (p : Parts) (i : Instr) (need : List Range) (o : Outcome) (image x : Cpu)
    (bytes old : List ℕ) (code : ℕ) → nat_lt 0 p.attempt.count ≡ true
    → outcome_from (ended.Aborting code) x bytes ≡ trimmed (first_size need) o
    → image ≡ cpu_after p.image o
    → ◌≡◌ {A = Executed} (record {
      after = beside (record p { image = image }) old;
      told = done.Ended (Tabort code);
    }) (inside i need (beside p old) o)
aborting-is p i need (Aborts number) image x bytes old code live eo ei =
    let same : code ≡ number = cc in
    unchanged-is p image old (done.Ended (Tabort code)) live ei
    ∙ (λ j. record { after = beside p old; told = done.Ended (Tabort (same j)) })
aborting-is p i need (Did c all) image x bytes old code live eo ei = absurd (cc)
aborting-is p i need (Overflowed c all) image x bytes old code live eo ei = absurd (cc)
aborting-is p i need Divides image x bytes old code live eo ei = absurd (cc)

-- ---- an instruction that overflows ends nothing

done-completes : (o : Outcome) (c : Cpu) (all : List ℕ) (x : Cpu) (bytes : List ℕ) (n : ℕ) → o ≡ Did c all
    → outcome_from ended.Exceeded x bytes ≡ trimmed n o → ⊥
done-completes o c all x bytes n e h =
    let both : Overflowed x bytes ≡ Did c (take n all) = h ∙ ap (trimmed n) e in absurd (cc)

pub exceeds-no-end : (i : Instr) (need : List Range) (s : Storage) (q : Progress) (x : Cpu) (bytes : List ℕ)
    (n : ℕ) (b : Bool) → is_end (entry_at i.op.number) ≡ b
    → outcome_from ended.Exceeded x bytes ≡ trimmed n (outcome_by s i need q)
    → (b && nat_eq (length q.nest) 1) ≡ false
exceeds-no-end i need s q x bytes n false e h = refl
exceeds-no-end i need s q x bytes n true e h =
    let d = role_done i q.cpu (length q.nest) _
    (or_right (begins (entry_at i.op.number)) (is_end (entry_at i.op.number)) e) in
    absurd (done-completes (outcome_by s i need q) d.cpu d.bytes x bytes n d.is h)
