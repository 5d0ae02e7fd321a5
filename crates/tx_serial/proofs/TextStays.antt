-- No store of a run goes to text, and the block that its outermost begin names has no text.
use Rattle.std.proofs.Common.{◌≡◌, ℕ, zero, suc, ◌+◌, ◌-◌, ◌<◌, Bool, true, false, List, [], ◌∷◌, ◌++◌}
use Rattle.std.proofs.Common.{Option, Some, None, refl, sym, ap, subst, ◌∙◌, arith, length, take, drop}
use Rattle.std.proofs.Common.{length-take}
use Rattle.std.specs.Prelude.{◌||◌, cond, if◌then◌else◌, ◌==◌}
use Rattle.std.specs.List.{list_any}
use Rattle.std.proofs.lemmas.Bool.{true≢false, or_from}
use Rattle.std.proofs.lemmas.List.Folds.{list_any-append}
use Rattle.z_regs.specs.Prefix.{absolute_of, is_prefix}
use Rattle.z_regs.specs.declared.ranges.Range.{Range}
use Rattle.z_instr.specs.declared.instr.Instr.{Instr}
use Rattle.z_instr.specs.Table.{entry_at}
use Rattle.z_instr.specs.Roles.{begins, is_end}
use Rattle.z_instr.specs.Access.{lies_in}
use Rattle.z_effect.specs.Outcome.{Outcome, Did, Divides, Aborts}
use Rattle.z_effect.specs.Outcome as outcome
use Rattle.z_effect.specs.Beginning.{begin_of}
use Rattle.tx_control.specs.declared.begins.Begin.{Begin}
use Rattle.tx_control.specs.Nesting.{outermost_block}
use Rattle.store_cache.specs.Overlay.{Store}
use Rattle.tx_serial.specs.Flat.{Storage, FlatState, at_put, laid_over, stores_at, operand_stores}
use Rattle.tx_serial.specs.Attempt.{Run, Mark, Open, Committed, Overflowed, Missing}
use Rattle.tx_serial.specs.Fate.{Fate, Goes, Ends, Stops, Passes, fate, tests, first_refusal}
use Rattle.tx_serial.specs.Run.{run, more, more_of, after_fate, after_where, after, may_follow, outcome_of}
use Rattle.tx_serial.specs.Run.{nest_after}
use Rattle.tx_serial.specs.Text.{SameText, IsFree}
use Rattle.tx_serial.proofs.Copies.{run_copy, run_prefix, run_lasting}
use Rattle.tx_serial.proofs.FreeOperands.{AreFree, free_operands, free_block}
use Rattle.tx_serial.proofs.Passing.{passes}

-- ---- stores that go to no text

-- some store goes to text
abbrev pub any_text : List ℕ → List Store → Bool
any_text text stores = list_any (λ s. lies_in text s.address) stores

pub or_first : (a b : Bool) → (a || b) ≡ false → a ≡ false
or_first true b h = absurd (cc)
or_first false b h = refl

pub or_second : (a b : Bool) → (a || b) ≡ false → b ≡ false
or_second true b h = absurd (cc)
or_second false b h = h

pub text_append : (text : List ℕ) (xs ys : List Store) → any_text text xs ≡ false → any_text text ys ≡ false
    → any_text text (xs ++ ys) ≡ false
text_append text xs ys g h =
    list_any-append (λ s. lies_in text s.address) xs ys ∙ or_from (any_text text xs) (any_text text ys) g h

put_elsewhere : (text : List ℕ) (storage : Storage) (x byte a : ℕ) → lies_in text x ≡ false
    → lies_in text a ≡ true → at_put storage x byte a ≡ storage a
put_elsewhere text storage x byte a plain is = by (a == x) refl
  where
    by : (b : Bool) → (a == x) ≡ b → (if a == x then byte else storage a) ≡ storage a
    by true e =
        let same : a ≡ x = grind (arith, e) in
        absurd (true≢false (sym is ∙ ap (lies_in text) same ∙ plain))
    by false e = ap (λ b. if b then byte else storage a) e

pub laid_apart : (text : List ℕ) (stores : List Store) (storage : Storage) → any_text text stores ≡ false
    → SameText text storage (laid_over storage stores)
unfolding laid_over
laid_apart text [] storage h a is = refl
laid_apart text (s ∷ rest) storage h a is =
    laid_apart text rest (at_put storage s.address s.byte)
    (or_second (lies_in text s.address) (any_text text rest) h) a is
    ∙ put_elsewhere text storage s.address s.byte a
    (or_first (lies_in text s.address) (any_text text rest) h) is

-- ---- the stores of operands

-- bytes at places that are no text
pub stores_apart : (text : List ℕ) (prefix : Option ℕ) (bytes : List ℕ) (a : ℕ)
    → ((k : ℕ) → k < length bytes → lies_in text (absolute_of prefix (a + k)) ≡ false)
    → any_text text (stores_at prefix a bytes) ≡ false
stores_apart text prefix [] a plain = refl
stores_apart text prefix (b ∷ bs) a plain =
    or_from (lies_in text (absolute_of prefix a)) (any_text text (stores_at prefix (suc a) bs))
    (subst (λ x. lies_in text (absolute_of prefix x) ≡ false) (let e : a + 0 ≡ a = omega arith in e)
    (plain 0 (let e : 0 < suc (length bs) = omega arith in e)))
    (stores_apart text prefix bs (suc a) (λ k h.
    subst (λ x. lies_in text (absolute_of prefix x) ≡ false)
    (let e : a + suc k ≡ suc a + k = omega arith in e)
    (plain (suc k) (let e : suc k < suc (length bs) = omega (arith, h) in e))))

first_apart : (text : List ℕ) (prefix : Option ℕ) (r : Range) (rs : List Range) (bytes : List ℕ) (t : Bool)
    → r.store ≡ t → (r.store ≡ true → (k : ℕ) → k < r.length → IsFree prefix text (r.first + k))
    → ((others : List ℕ) → any_text text (operand_stores prefix rs others) ≡ false)
    → any_text text (cond t
    (stores_at prefix r.first (take r.length bytes) ++ operand_stores prefix rs (drop r.length bytes))
    (operand_stores prefix rs bytes)) ≡ false
first_apart text prefix r rs bytes true stored free rest =
    text_append text (stores_at prefix r.first (take r.length bytes))
    (operand_stores prefix rs (drop r.length bytes))
    (stores_apart text prefix (take r.length bytes) r.first (λ k h.
    let within : k < r.length = omega (arith, h, length-take r.length bytes) in
    (free stored k within).plain))
    (rest (drop r.length bytes))
first_apart text prefix r rs bytes false stored free rest = rest bytes

pub operands_apart : (text : List ℕ) (prefix : Option ℕ) (ranges : List Range) → AreFree prefix text ranges
    → (bytes : List ℕ) → any_text text (operand_stores prefix ranges bytes) ≡ false
operands_apart text prefix [] free bytes = refl
operands_apart text prefix (r ∷ rs) free bytes =
    first_apart text prefix r rs bytes r.store refl free.0 (operands_apart text prefix rs free.1)

-- of an instruction that goes
pub new_apart : (text : List ℕ) (p : Run) (i : Instr) (ranges : List Range) (bytes : List ℕ)
    → is_prefix p.cpu.prefix ≡ true → Passes text p i ranges
    → any_text text (operand_stores p.cpu.prefix ranges bytes) ≡ false
new_apart text p i ranges bytes ok h =
    operands_apart text p.cpu.prefix ranges
    (subst (AreFree p.cpu.prefix text) (sym h.touches) (free_operands text p i ok h.passed)) bytes

-- ---- along a run

apart_after : (text : List ℕ) (p : Run) (i : Instr) (ranges : List Range) (o : Outcome)
    → is_prefix p.cpu.prefix ≡ true → Passes text p i ranges → any_text text p.stores ≡ false
    → any_text text (after i ranges p o).stores ≡ false
apart_after text p i ranges (Did c bytes) ok h old =
    text_append text p.stores (operand_stores p.cpu.prefix ranges bytes) old (new_apart text p i ranges bytes
    ok h)
apart_after text p i ranges (outcome.Overflowed c bytes) ok h old =
    text_append text p.stores (operand_stores p.cpu.prefix ranges bytes) old (new_apart text p i ranges bytes
    ok h)
apart_after text p i ranges Divides ok h old = old
apart_after text p i ranges (Aborts code) ok h old = old

apart_where : (text : List ℕ) (p : Run) (b : Bool) (i : Instr) (ranges : List Range)
    → is_prefix p.cpu.prefix ≡ true → Passes text p i ranges → any_text text p.stores ≡ false
    → any_text text (after_where b i ranges p).stores ≡ false
apart_where text p true i ranges ok h old = apart_after text p i ranges (outcome_of i ranges p) ok h old
apart_where text p false i ranges ok h old = old

apart_fate : (text : List ℕ) (p : Run) (o : Fate) → fate text p ≡ o → is_prefix p.cpu.prefix ≡ true
    → any_text text p.stores ≡ false → any_text text (after_fate o p).stores ≡ false
apart_fate text p (Goes i ranges) e ok old =
    apart_where text p (may_follow p.nest i) i ranges ok (passes text p i ranges e) old
apart_fate text p (Ends why) e ok old = old
apart_fate text p (Stops x) e ok old = old

apart_more : (text : List ℕ) (p : Run) (m : Mark) → is_prefix p.cpu.prefix ≡ true
    → any_text text p.stores ≡ false → any_text text (more_of m text p).stores ≡ false
apart_more text p Open ok old = apart_fate text p (fate text p) refl ok old
apart_more text p Committed ok old = old
apart_more text p Overflowed ok old = old
apart_more text p Missing ok old = old

pub has_prefix : (f : FlatState) (i k : ℕ) → is_prefix (f.cpus i).prefix ≡ true
    → is_prefix (run f i k).cpu.prefix ≡ true
has_prefix f i k ok = ap is_prefix (run_prefix f i k) ∙ ok

pub run_apart : (f : FlatState) (i k : ℕ) → is_prefix (f.cpus i).prefix ≡ true
    → any_text f.text (run f i k).stores ≡ false
unfolding run more
run_apart f i zero ok = refl
run_apart f i (suc k) ok =
    apart_more f.text (run f i k) (run f i k).mark (has_prefix f i k ok) (run_apart f i k ok)

pub copy_keeps_text : (f : FlatState) (i k : ℕ) → is_prefix (f.cpus i).prefix ≡ true
    → SameText f.text f.storage (run f i k).copy
copy_keeps_text f i k ok a is =
    ap (λ s. s a) (run_copy f i k) ∙ laid_apart f.text (run f i k).stores f.storage (run_apart f i k ok) a is

pub contraposed : (b c : Bool) → (b ≡ true → c ≡ true) → c ≡ false → b ≡ false
contraposed true c h e = absurd (true≢false (sym (h refl) ∙ e))
contraposed false c h e = refl

pub lasting_apart : (f : FlatState) (i k : ℕ) → is_prefix (f.cpus i).prefix ≡ true
    → any_text f.text (run f i k).lasting ≡ false
lasting_apart f i k ok =
    contraposed (any_text f.text (run f i k).lasting) (any_text f.text (run f i k).stores)
    (run_lasting (λ s. lies_in f.text s.address) f i k) (run_apart f i k ok)

-- ---- the block that is named

-- where the outermost begin names a block, its bytes are free
abbrev pub HasFreeBlock : Option ℕ → List ℕ → List Begin → Type 0
HasFreeBlock prefix text nest =
    (a : ℕ) → outermost_block nest ≡ Some a → (k : ℕ) → k < 256 → IsFree prefix text (a + k)

-- the first begin of a nest
begun_free : (text : List ℕ) (p : Run) (i : Instr) → is_prefix p.cpu.prefix ≡ true → p.nest ≡ []
    → first_refusal (tests text p i) ≡ None → begins (entry_at i.op.number) ≡ true
    → HasFreeBlock p.cpu.prefix text (nest_after i p.cpu.general [])
begun_free text p i ok outside h begun a names =
    free_block text p i a ok outside h
    (sym (ap (λ b. outermost_block (if b then [] ++ begin_of i p.cpu.general ∷ []
    else if is_end (entry_at i.op.number) then [] else [])) begun) ∙ names)

none_left : (n : ℕ) (b : Begin) (bs : List Begin) (a : ℕ) → outermost_block (take n (b ∷ bs)) ≡ Some a
    → outermost_block (b ∷ bs) ≡ Some a
none_left zero b bs a h = absurd (cc)
none_left (suc n) b bs a h = h

-- an instruction inside a transaction leaves its outermost begin, or none
nested_free : (prefix : Option ℕ) (text : List ℕ) (b : Begin) (bs : List Begin) (i : Instr) (general : List ℕ)
    (x y : Bool) → HasFreeBlock prefix text (b ∷ bs)
    → HasFreeBlock prefix text (if x then (b ∷ bs) ++ begin_of i general ∷ []
    else if y then take (length (b ∷ bs) - 1) (b ∷ bs) else b ∷ bs)
nested_free prefix text b bs i general true y old = old
nested_free prefix text b bs i general false true old =
    λ a names. old a (none_left (length (b ∷ bs) - 1) b bs a names)
nested_free prefix text b bs i general false false old = old

nest_free : (text : List ℕ) (p : Run) (i : Instr) (nest : List Begin) → p.nest ≡ nest
    → is_prefix p.cpu.prefix ≡ true → first_refusal (tests text p i) ≡ None → may_follow nest i ≡ true
    → HasFreeBlock p.cpu.prefix text nest → HasFreeBlock p.cpu.prefix text (nest_after i p.cpu.general nest)
nest_free text p i [] e ok h may old = begun_free text p i ok e h may
nest_free text p i (b ∷ bs) e ok h may old =
    nested_free p.cpu.prefix text b bs i p.cpu.general (begins (entry_at i.op.number))
    (is_end (entry_at i.op.number)) old

-- the prefix is that of the run, which no instruction changes
abbrev Named : List ℕ → Run → Run → Type 0
Named text p q = HasFreeBlock p.cpu.prefix text q.nest

named_after : (text : List ℕ) (p : Run) (i : Instr) (ranges : List Range) (o : Outcome)
    → HasFreeBlock p.cpu.prefix text (nest_after i p.cpu.general p.nest) → Named text p p
    → Named text p (after i ranges p o)
named_after text p i ranges (Did c bytes) new old = new
named_after text p i ranges (outcome.Overflowed c bytes) new old = new
named_after text p i ranges Divides new old = old
named_after text p i ranges (Aborts code) new old = old

named_where : (text : List ℕ) (p : Run) (b : Bool) (i : Instr) (ranges : List Range)
    → may_follow p.nest i ≡ b → is_prefix p.cpu.prefix ≡ true → Passes text p i ranges → Named text p p
    → Named text p (after_where b i ranges p)
named_where text p true i ranges e ok h old =
    named_after text p i ranges (outcome_of i ranges p) (nest_free text p i p.nest refl ok h.passed e old) old
named_where text p false i ranges e ok h old = old

named_fate : (text : List ℕ) (p : Run) (o : Fate) → fate text p ≡ o → is_prefix p.cpu.prefix ≡ true
    → Named text p p → Named text p (after_fate o p)
named_fate text p (Goes i ranges) e ok old =
    named_where text p (may_follow p.nest i) i ranges refl ok (passes text p i ranges e) old
named_fate text p (Ends why) e ok old = old
named_fate text p (Stops x) e ok old = old

named_more : (text : List ℕ) (p : Run) (m : Mark) → is_prefix p.cpu.prefix ≡ true → Named text p p
    → Named text p (more_of m text p)
named_more text p Open ok old = named_fate text p (fate text p) refl ok old
named_more text p Committed ok old = old
named_more text p Overflowed ok old = old
named_more text p Missing ok old = old

no_nest : (prefix : Option ℕ) (text : List ℕ) → HasFreeBlock prefix text []
no_nest prefix text a names = absurd (cc)

pub run_names_free : (f : FlatState) (i k : ℕ) → is_prefix (f.cpus i).prefix ≡ true
    → HasFreeBlock (f.cpus i).prefix f.text (run f i k).nest
unfolding run more
run_names_free f i zero ok = no_nest (f.cpus i).prefix f.text
run_names_free f i (suc k) ok =
    let p = run f i k in
    let same = run_prefix f i k in
    subst (λ prefix. HasFreeBlock prefix f.text (more_of p.mark f.text p).nest) same
    (named_more f.text p p.mark (has_prefix f i k ok)
    (subst (λ prefix. HasFreeBlock prefix f.text p.nest) (sym same) (run_names_free f i k ok)))
