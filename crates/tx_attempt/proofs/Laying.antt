-- What an instruction leaves of storage itself, as stores that are laid over it.
use Rattle.std.proofs.Common.{◌≡◌, ℕ, suc, ◌+◌, ◌<◌, ◌≤◌, Bool, true, false, List, [], ◌∷◌, ◌++◌, Option}
use Rattle.std.proofs.Common.{None, refl, sym, ap, subst, ◌∙◌, arith, length, set, take, drop}
use Rattle.std.specs.Prelude.{map, cond, All}
use Rattle.std.proofs.lemmas.List.{length-take, length-set, append-nil}
use Rattle.std.proofs.lemmas.List.Elements.{All-nil, All-cons}
use Rattle.z_regs.specs.Cpu.{Cpu}
use Rattle.z_regs.specs.declared.ranges.Range.{Range}
use Rattle.z_instr.specs.declared.instr.Instr.{Instr}
use Rattle.z_touch.specs.Refusals.{span_of}
use Rattle.z_effect.specs.After.{written, with_stored, storage_after, AreInside, touched, cpu_after}
use Rattle.z_effect.specs.Outcome.{Outcome, Did, Overflowed, Divides, Aborts}
use Rattle.z_effect.specs.One.{one}
use Rattle.z_regs.proofs.Writes.{written_none, written_then, set_is_written}
use Rattle.tx_serial.specs.Flat.{Storage, stores_at, operand_stores, operand_bytes, laid_over}
use Rattle.tx_attempt.specs.declared.performing.Ended.{Ended}
use Rattle.tx_attempt.specs.declared.performing.Ended.TheVariants as ended
use Rattle.tx_attempt.specs.Performed.{StoresNone, StoresFirst, IsLeft, IsLeftOutside, storage_left, storage_outside}
use Rattle.tx_attempt.specs.Performed.{IsFetched, outcome_from, trimmed, first_size, ended_of}
use Rattle.tx_attempt.specs.Storages.{storage_of}
use Rattle.tx_attempt.proofs.Storages.{storage_of-set}
use Rattle.tx_attempt.proofs.Fetching.{touched-fetched}
use Rattle.tx_attempt.proofs.Stored.{none-written, none-stores, trimmed-stores}

-- bytes that are written are stores, one after the other
storage_of-written : (bytes : List ℕ) (a : ℕ) (s : List ℕ) → a + length bytes ≤ length s
    → storage_of (written s a bytes) ≡ laid_over (storage_of s) (stores_at None a bytes)
unfolding laid_over
storage_of-written [] a s h = ap storage_of (sym (written_none s a))
storage_of-written (b ∷ bs) a s h =
    let here : a < length s = omega (arith, h) in
    let next : suc a ≡ a + 1 = omega arith in
    let size = length-set s a b in
    let within : suc a + length bs ≤ length (set s a b) = omega (arith, h, size) in
    let one-more : written s a (b ∷ bs) ≡ written (set s a b) (suc a) bs =
    sym (written_then s a (b ∷ []) bs (omega (arith, here)))
    ∙ (λ j. written (sym (set_is_written s a b here) j) (sym next j) bs) in
    ap storage_of one-more ∙ storage_of-written bs (suc a) (set s a b) within
    ∙ ap (λ (t : Storage). laid_over t (stores_at None (suc a) bs)) (storage_of-set s a b here)

first-laid-by : (r : Range) (rs : List Range) (bytes s : List ℕ) (b : Bool) → r.store ≡ b → StoresNone rs
    → r.first + r.length ≤ length s
    → storage_of (cond b (with_stored (map span_of rs) (drop r.length bytes)
    (written s r.first (take r.length bytes))) (with_stored (map span_of rs) bytes s))
    ≡ laid_over (storage_of s) (cond b
    (stores_at None r.first (take r.length bytes) ++ operand_stores None rs (drop r.length bytes))
    (operand_stores None rs bytes))
unfolding laid_over
first-laid-by r rs bytes s true e none h =
    ap storage_of (none-written rs (drop r.length bytes) (written s r.first (take r.length bytes)) none)
    ∙ storage_of-written (take r.length bytes) r.first s (omega (arith, h, length-take r.length bytes))
    ∙ ap (laid_over (storage_of s))
    (sym (ap (λ ss. stores_at None r.first (take r.length bytes) ++ ss)
    (none-stores None rs (drop r.length bytes) none)
    ∙ append-nil (stores_at None r.first (take r.length bytes))))
first-laid-by r rs bytes s false e none h =
    ap storage_of (none-written rs bytes s none)
    ∙ ap (laid_over (storage_of s)) (sym (none-stores None rs bytes none))

stored-laid : (need : List Range) (bytes s : List ℕ) → StoresFirst need → AreInside (map span_of need) s
    → storage_of (with_stored (map span_of need) bytes s)
    ≡ laid_over (storage_of s) (operand_stores None need bytes)
unfolding laid_over
stored-laid [] bytes s first inside = refl
stored-laid (r ∷ rs) bytes s first inside = first-laid-by r rs bytes s r.store refl first inside.0

-- without a prefix, what an instruction leaves of storage is what it stores
pub plain-laid : (need : List Range) (o : Outcome) (s t : List ℕ) → StoresFirst need
    → AreInside (map span_of need) s → t ≡ storage_after (map span_of need) s o
    → storage_of t ≡ storage_left None need o (storage_of s)
plain-laid need (Did c bytes) s t first inside e = ap storage_of e ∙ stored-laid need bytes s first inside
plain-laid need (Overflowed c bytes) s t first inside e =
    ap storage_of e ∙ stored-laid need bytes s first inside
plain-laid need Divides s t first inside e = ap storage_of e
plain-laid need (Aborts code) s t first inside e = ap storage_of e

all-there : (s : List ℕ) (need : List Range) → All (IsFetched None (storage_of s) s) need
all-there s [] = All-nil (IsFetched None (storage_of s) s)
all-there s (r ∷ rs) = All-cons (IsFetched None (storage_of s) s) r rs (λ k lt. refl) (all-there s rs)

-- executed on storage itself
pub plain-left-outside : (i : Instr) (need : List Range) (depth : ℕ) (prefix : Option ℕ) (old new : Cpu)
    (s t : List ℕ) (e : Ended) → prefix ≡ None → prefix ≡ old.prefix → StoresFirst need
    → AreInside (map span_of need) s
    → IsLeft (one i old depth (touched (map span_of need) s)) need old new s t e
    → IsLeftOutside need old new s t e (one i old depth (operand_bytes old.prefix (storage_of s) need))
plain-left-outside i need depth prefix old new s t e none same first inside left =
    let bare : None ≡ old.prefix = sym none ∙ same in
    let fetched : touched (map span_of need) s ≡ operand_bytes old.prefix (storage_of s) need =
    touched-fetched None (storage_of s) need s inside (all-there s need)
    ∙ ap (λ (p : Option ℕ). operand_bytes p (storage_of s) need) bare in
    let known : IsLeft (one i old depth (operand_bytes old.prefix (storage_of s) need)) need old new s t e =
    subst (λ (bs : List ℕ). IsLeft (one i old depth bs) need old new s t e) fetched left in
    let o = one i old depth (operand_bytes old.prefix (storage_of s) need) in
    record {
      told = known.told;
      image = known.image;
      storage = plain-laid need o s t first inside known.view
          ∙ ap (λ (p : Option ℕ). storage_left p need o (storage_of s)) bare;
    }

-- ---- performed on the bytes of its operands

abbrev pub stored_in : Outcome → List ℕ
stored_in (Did c bytes) = bytes
stored_in (Overflowed c bytes) = bytes
stored_in Divides = []
stored_in (Aborts code) = []

pub ended-back : (e : Ended) (c : Cpu) (bytes : List ℕ) → ended_of (outcome_from e c bytes) ≡ e
ended-back ended.Completed c bytes = refl
ended-back ended.Exceeded c bytes = refl
ended-back ended.Suppressed c bytes = refl
ended-back (ended.Aborting code) c bytes = refl

pub ended-trimmed : (n : ℕ) (o : Outcome) → ended_of (trimmed n o) ≡ ended_of o
ended-trimmed n (Did c bytes) = refl
ended-trimmed n (Overflowed c bytes) = refl
ended-trimmed n Divides = refl
ended-trimmed n (Aborts code) = refl

-- it ended as its outcome says
pub ended-so : (e : Ended) (c : Cpu) (bytes : List ℕ) (n : ℕ) (o : Outcome)
    → outcome_from e c bytes ≡ trimmed n o → e ≡ ended_of o
ended-so e c bytes n o h = sym (ended-back e c bytes) ∙ ap ended_of h ∙ ended-trimmed n o

apart-by : (prefix : Option ℕ) (need : List Range) (o : Outcome) (c : Cpu) (bytes : List ℕ) (s : Storage)
    → StoresFirst need → outcome_from (ended_of o) c bytes ≡ trimmed (first_size need) o
    → storage_outside prefix need (ended_of o) bytes s ≡ storage_left prefix need o s
apart-by prefix need (Did x all) c bytes s first h =
    ap (λ (bs : List ℕ). laid_over s (operand_stores prefix need bs)) (ap stored_in h)
    ∙ ap (laid_over s) (trimmed-stores prefix need all first)
apart-by prefix need (Overflowed x all) c bytes s first h =
    ap (λ (bs : List ℕ). laid_over s (operand_stores prefix need bs)) (ap stored_in h)
    ∙ ap (laid_over s) (trimmed-stores prefix need all first)
apart-by prefix need Divides c bytes s first h = refl
apart-by prefix need (Aborts code) c bytes s first h = refl

-- what was kept apart is stored then
pub apart-left : (need : List Range) (o : Outcome) (old new : Cpu) (s t bytes : List ℕ) (e : Ended)
    → StoresFirst need → outcome_from e new bytes ≡ trimmed (first_size need) o → new ≡ cpu_after old o
    → storage_of t ≡ storage_outside old.prefix need e bytes (storage_of s)
    → IsLeftOutside need old new s t e o
apart-left need o old new s t bytes e first h image laid =
    let same : e ≡ ended_of o = ended-so e new bytes (first_size need) o h in
    record {
      told = same;
      image = image;
      storage = laid ∙ ap (λ (x : Ended). storage_outside old.prefix need x bytes (storage_of s)) same
          ∙ apart-by old.prefix need o new bytes (storage_of s) first
          (sym (ap (λ (x : Ended). outcome_from x new bytes) same) ∙ h);
    }
