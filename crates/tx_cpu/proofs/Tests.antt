-- Tests in order: the first that finds something decides.
use Rattle.std.proofs.Common.{◌≡◌, ℕ, Bool, true, false, take, length, List, [], ◌∷◌, ◌++◌, Option, Some}
use Rattle.std.proofs.Common.{None, refl, sym, ap, subst, ◌∙◌}
use Rattle.std.specs.Prelude.{All, Ok, Err, if◌then◌else◌, nat_lt}
use Rattle.z_regs.specs.Cpu.{Cpu}
use Rattle.z_regs.specs.Absolute.{IsAccessible}
use Rattle.z_regs.specs.declared.ranges.Range.{Range}
use Rattle.z_instr.specs.declared.instr.Instr.{Instr}
use Rattle.z_instr.specs.Operands.{spans, unspecified, inaccessible}
use Rattle.z_instr.specs.Access.{accessible_pages, text_pages}
use Rattle.z_instr.specs.Table.{entry_at}
use Rattle.z_instr.proofs.SmallOperands.{sizes}
use Rattle.z_touch.specs.Refusals.{answer, fetch_answer, at_fetch}
use Rattle.z_instr.specs.Layout.{length_by}
use Rattle.tx_control.specs.declared.begins.Begin.{Begin}
use Rattle.tx_control.specs.declared.exceptions.Exception.{Exception}
use Rattle.tx_serial.specs.Fate.{Fate, Goes, Refusal, Excepts, first_refusal, excepted, operands, fate_after}
use Rattle.tx_serial.specs.Fate.{restricted_refusal, specified_refusal, depth_refusal, operand_refusal}
use Rattle.tx_serial.specs.Fate.{fetch_refusal, instruction_at, unreadable}
use Rattle.tx_serial.specs.Flat.{Storage, bytes_seen}
use Rattle.tx_progress.specs.Progress.{Progress}
use Rattle.tx_progress.specs.Trial.{at_hand, tried, fetched, fate_by_progress, tests_by, text_refusal_by}
use Rattle.tx_progress.specs.Trial.{place_refusal_by, overflow_refusal_by}
use Rattle.tx_serial.proofs.FreeOperands.{inside_operands}
use Rattle.tx_serial.proofs.Reached.{accessible_spans}

pub first-found : (xs ys : List (Option Refusal)) (r : Refusal) → Some r ≡ first_refusal xs
    → first_refusal (xs ++ ys) ≡ Some r
first-found [] ys r h = absurd (cc)
first-found (None ∷ xs) ys r h = first-found xs ys r h
first-found (Some s ∷ xs) ys r h = sym h

pub first-none : (xs ys : List (Option Refusal)) → None ≡ first_refusal xs
    → first_refusal (xs ++ ys) ≡ first_refusal ys
first-none [] ys h = refl
first-none (None ∷ xs) ys h = first-none xs ys h
first-none (Some s ∷ xs) ys h = absurd (cc)

pub none-here : (o : Option Refusal) (rest : List (Option Refusal)) → None ≡ first_refusal (o ∷ rest)
    → None ≡ o
none-here None rest h = refl
none-here (Some r) rest h = absurd (cc)

pub none-later : (o : Option Refusal) (rest : List (Option Refusal)) → None ≡ first_refusal (o ∷ rest)
    → None ≡ first_refusal rest
none-later None rest h = h
none-later (Some r) rest h = absurd (cc)

pub not-excepted : (i : Instr) (o : Option ℕ) → None ≡ excepted i o → o ≡ None
not-excepted i None h = refl
not-excepted i (Some code) h = absurd (cc)

-- ---- operands

answered : (o : Option ℕ) (i : Instr) (fits : Unit {0}) → Ok fits ≡ answer o i fits → o ≡ None
answered None i fits h = refl
answered (Some code) i fits h = absurd (cc)

-- an instruction whose operands pass the tests of addressing has accessible ones
pub accessible-need : (text : List ℕ) (i : Instr) (c : Cpu) (depth : ℕ) (need : List Range) (fits : Unit {0})
    → need ≡ operands i c
    → Ok fits ≡ answer (inaccessible i c.general c.condition depth (accessible_pages c.prefix)
    (text_pages c.prefix text)) i fits
    → All (IsAccessible c.prefix) need
accessible-need text i c depth need fits e h =
    subst (All (IsAccessible c.prefix)) (sym e)
    (accessible_spans c.prefix (spans i c.general c.condition)
    (sizes (entry_at i.op.number).operands i c.general c.condition)
    (inside_operands text i c depth (answered _ i fits h)))

-- ---- the fate of an instruction that is read

abbrev pub heads : Storage → Progress → Instr → List (Option Refusal)
heads storage q i =
    text_refusal_by q i
    ∷ restricted_refusal (at_hand storage q) i
    ∷ specified_refusal (at_hand storage q) i
    ∷ depth_refusal (at_hand storage q) i
    ∷ []

abbrev pub tails : List ℕ → Storage → Progress → Instr → List (Option Refusal)
tails text storage q i =
    operand_refusal text (at_hand storage q) i
    ∷ place_refusal_by q i
    ∷ overflow_refusal_by q i
    ∷ []

pub tried-first : (q : Progress) (i : Instr) (xs ys : List (Option Refusal)) (nest : List Begin) (r : Refusal)
    (f : Fate) → nest ≡ q.nest → f ≡ fate_after nest r → Some r ≡ first_refusal xs
    → f ≡ tried q i (first_refusal (xs ++ ys))
tried-first q i xs ys nest r f en e h =
    e ∙ ap (λ (n : List Begin). fate_after n r) en ∙ sym (ap (tried q i) (first-found xs ys r h))

pub tried-later : (q : Progress) (i : Instr) (xs ys : List (Option Refusal)) (nest : List Begin) (r : Refusal)
    (f : Fate) → nest ≡ q.nest → f ≡ fate_after nest r → None ≡ first_refusal xs → Some r ≡ first_refusal ys
    → f ≡ tried q i (first_refusal (xs ++ ys))
tried-later q i xs ys nest r f en e none h =
    e ∙ ap (λ (n : List Begin). fate_after n r) en ∙ sym (ap (tried q i) (first-none xs ys none ∙ sym h))

pub tried-goes : (q : Progress) (i : Instr) (xs ys : List (Option Refusal)) (need : List Range)
    → None ≡ first_refusal xs → None ≡ first_refusal ys → need ≡ operands i q.cpu
    → Goes i need ≡ tried q i (first_refusal (xs ++ ys))
tried-goes q i xs ys need none passed same =
    ap (Goes i) same ∙ sym (ap (tried q i) (first-none xs ys none ∙ sym passed))

-- ---- the fate of the next instruction

unfetched-at : (text : List ℕ) (storage : Storage) (q : Progress) (e : Exception) (o : Option ℕ)
    (i : Option Instr) → Err e ≡ fetch_answer o → fate_after q.nest (Excepts e) ≡ fetched text storage q o i
unfetched-at text storage q e None i h = absurd (cc)
unfetched-at text storage q e (Some code) i h =
    let same : e ≡ at_fetch code = cc in ap (λ (x : Exception). fate_after q.nest (Excepts x)) same

pub planned-unfetched : (text : List ℕ) (storage : Storage) (q : Progress) (e : Exception)
    → Err e ≡ fetch_answer (fetch_refusal text (at_hand storage q))
    → fate_after q.nest (Excepts e) ≡ fate_by_progress text storage q
unfolding fate_by_progress
planned-unfetched text storage q e h =
    unfetched-at text storage q e (fetch_refusal text (at_hand storage q)) (instruction_at (at_hand storage
    q)) h

pub planned-read : (text : List ℕ) (storage : Storage) (q : Progress) (i : Instr) (f : Fate)
    → fetch_refusal text (at_hand storage q) ≡ None → instruction_at (at_hand storage q) ≡ Some i
    → f ≡ tried q i (first_refusal (tests_by text storage q i)) → f ≡ fate_by_progress text storage q
unfolding fate_by_progress
planned-read text storage q i f ef ei e =
    e ∙ sym (ap (λ o. fetched text storage q o (instruction_at (at_hand storage q))) ef
    ∙ ap (fetched text storage q None) ei)

pub planned-unread : (text : List ℕ) (storage : Storage) (q : Progress) (f : Fate)
    → fetch_refusal text (at_hand storage q) ≡ None → instruction_at (at_hand storage q) ≡ None
    → f ≡ fate_after q.nest (Excepts (unreadable (at_hand storage q))) → f ≡ fate_by_progress text storage q
unfolding fate_by_progress
planned-unread text storage q f ef ei e =
    e ∙ sym (ap (λ o. fetched text storage q o (instruction_at (at_hand storage q))) ef
    ∙ ap (fetched text storage q None) ei)

-- ---- the bytes of an instruction

taken_by : (prefix : Option ℕ) (s : Storage) (a : ℕ) (x y : Bool)
    → take (if x then 2 else if y then 4 else 6) (bytes_seen prefix s a 6)
    ≡ bytes_seen prefix s a (if x then 2 else if y then 4 else 6)
taken_by prefix s a true y = refl
taken_by prefix s a false true = refl
taken_by prefix s a false false = refl

-- as many as the first says
pub bytes_seen-taken : (prefix : Option ℕ) (s : Storage) (a b : ℕ)
    → take (length_by b) (bytes_seen prefix s a 6) ≡ bytes_seen prefix s a (length_by b)
bytes_seen-taken prefix s a b = taken_by prefix s a (nat_lt b 64) (nat_lt b 192)

pub specified-heads : (storage : Storage) (q : Progress) (i : Instr) → None ≡ first_refusal (heads storage q
    i)
    → unspecified i q.cpu.general (length q.nest) ≡ None
specified-heads storage q i h =
    let a = text_refusal_by q i in
    let b = restricted_refusal (at_hand storage q) i in
    let c = specified_refusal (at_hand storage q) i in
    let d = depth_refusal (at_hand storage q) i in
    not-excepted i (unspecified i q.cpu.general (length q.nest))
    (none-here c (d ∷ []) (none-later b (c ∷ d ∷ []) (none-later a (b ∷ c ∷ d ∷ []) h)))
