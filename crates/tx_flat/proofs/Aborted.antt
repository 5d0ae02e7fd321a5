-- An entry that aborts an attempt, applied.
use Rattle.std.proofs.Common.{◌≡◌, ◌≢◌, ℕ, ◌+◌, ◌<◌, Bool, true, false, List, [], ◌∷◌, Option, Some, None}
use Rattle.std.proofs.Common.{refl, sym, ap}
use Rattle.std.proofs.Common.{subst, ◌∙◌, ◌⊎◌, inl, inr, arith, length}
use Rattle.std.specs.Prelude.{◌&&◌, ◌||◌, nat_lt, if◌then◌else◌}
use Rattle.std.proofs.Math.Bool.{and-false}
use Rattle.std.proofs.lemmas.Bool.{true≢false, lt-ltb, and_right}
use Rattle.z_regs.specs.Cpu.{Cpu, cpu_of}
use Rattle.z_regs.specs.Prefix.{storage_size}
use Rattle.z_regs.specs.Seen.{seen_by}
use Rattle.tx_control.specs.declared.begins.Begin.{Begin}
use Rattle.tx_control.specs.Nesting.{outermost_mask, outermost_block, is_constrained}
use Rattle.tx_control.specs.declared.causes.Why.{Why}
use Rattle.tx_control.specs.declared.causes.Why.TheVariants.{Program}
use Rattle.tx_abort.specs.Causes.{cause_of}
use Rattle.tx_abort.specs.Block.{block}
use Rattle.tx_abort.specs.Registers.{with_restored}
use Rattle.tx_constraint.specs.Constraints.{Step}
use Rattle.tx_journal.specs.declared.entries.Entry.TheVariants.{Abort}
use Rattle.tx_serial.specs.Apply.{apply, only_where, may_act}
use Rattle.tx_serial.specs.Attempt.{Run, last_step}
use Rattle.tx_serial.specs.Attempt as run
use Rattle.tx_serial.specs.Ending.{fits, ending, ending_of, is_cause, is_open, comes_from_outside}
use Rattle.tx_serial.specs.Flat.{Storage, FlatState, at_put, bytes_of, laid_over}
use Rattle.tx_serial.specs.Remains.{remains, cpu_after_abort, pending_after, waiting_after, block_after}
use Rattle.tx_serial.specs.Remains.{resumed_at, address_in, interrupted_after}
use Rattle.tx_serial.specs.Room.{HasRoom}
use Rattle.tx_serial.specs.Run.{run as runs}
use Rattle.tx_serial.proofs.Copies.{run_prefix}
use Rattle.tx_serial.proofs.SameCauses.{same_cause}
use Rattle.tx_flat.specs.Left.{told_in, told_by, resumed_by, block_by, cpu_left, pending_left}
use Rattle.tx_flat.specs.Left.{waiting_left}
use Rattle.tx_private.specs.Shows.{Shows, IsRun, IsRunOf, mark_of, begin_at, begin_length}
use Rattle.tx_flat.specs.Slots.{Holds, holding, pending_of}
use Rattle.tx_private.specs.declared.attempt.Attempt.{Attempt}
use Rattle.tx_private.specs.declared.attempt.Mark.{Mark}
use Rattle.tx_private.specs.declared.attempt.Mark.TheVariants.{Open, Committed, Overflowed, Missing}
use Rattle.tx_flat.specs.declared.slot.Slot.{Slot}
use Rattle.tx_flat.proofs.Applied.{held, seen_back}
use Rattle.tx_flat.proofs.Begun.{HasBegin, begun, begins_inside}
use Rattle.tx_private.proofs.Resting.{some_state}
use Rattle.tx_flat.proofs.Room.{RoomIn, own_room}

-- ---- where a cause fits

-- the attempt is open, or its last instruction overflowed
stands_by : (m : run.Mark) (text : List ℕ) (p : Run) (why : Why)
    → (is_cause (ending_of m text p) why || (is_open m && comes_from_outside text p why)) ≡ true
    → (m ≡ run.Open) ⊎ (m ≡ run.Overflowed)
stands_by run.Open text p why h = inl refl
stands_by run.Committed text p why h = absurd (true≢false (sym h))
stands_by run.Overflowed text p why h = inr refl
stands_by run.Missing text p why h = absurd (true≢false (sym h))

stands : (text : List ℕ) (p : Run) (why : Why) → fits text p why ≡ true
    → (p.mark ≡ run.Open) ⊎ (p.mark ≡ run.Overflowed)
unfolding fits ending
stands text p why h = stands_by p.mark text p why h

there_by : (m : run.Mark) → (m ≡ run.Open) ⊎ (m ≡ run.Overflowed) → m ≢ run.Missing
there_by m (inl e) h = let n : run.Open ≡ run.Missing = sym e ∙ h in cc
there_by m (inr e) h = let n : run.Overflowed ≡ run.Missing = sym e ∙ h in cc

some_by : (p : Run) (m : run.Mark) → p.mark ≡ m → (m ≡ run.Open) ⊎ (m ≡ run.Overflowed)
    → HasBegin p.mark p.nest → 0 < length p.nest
some_by p m e (inl o) h = subst (λ x. HasBegin x p.nest) (e ∙ o) h
some_by p m e (inr o) h = subst (λ x. HasBegin x p.nest) (e ∙ o) h

-- a program exception ends it by itself
room_of : (o : Option Why) (why : Why) (rest : Bool) → RoomIn o → (is_cause o why || rest) ≡ true
    → rest ≡ false → HasRoom why
room_of None why rest h e never = absurd (true≢false (sym e ∙ never))
room_of (Some own) why rest h e never =
    subst HasRoom (same_cause own why (first (is_cause (Some own) why) e)) h
  where
    first : (b : Bool) → (b || rest) ≡ true → b ≡ true
    first true g = refl
    first false g = absurd (true≢false (sym g ∙ never))

room_by : (text : List ℕ) (p : Run) (why : Why) → fits text p why ≡ true → HasRoom why
unfolding fits
room_by text p (Program e) h =
    room_of (ending text p) (Program e) (is_open p.mark && false) (own_room text p) h
    (and-false (is_open p.mark))
room_by text p _ h = tt

-- ---- what is kept of an attempt to which the cause fits

abbrev pub Fits : List ℕ → Attempt → Why → Bool → Type 0
Fits text a why b = (base : Storage) (p : Run) → IsRun base a p → b ≡ fits text p why

-- of its run on some state
record IsEnded (a : Attempt) (why : Why) : Type 0 where
  base : Storage
  p : Run
  shows : Shows base a p
  begun : 0 < length p.nest
  inside : begin_at p.steps < storage_size
  room : HasRoom why

ended : (bytes text : List ℕ) (c : Cpu) (n : ℕ) (a : Attempt) (why : Why) (b : Bool)
    → IsRunOf bytes text c n a → 0 < n → Fits text a why b → b ≡ true → IsEnded a why
ended bytes text c n a why b is some fit fitting =
    let f = some_state bytes text c in
    let p = runs f 0 n in
    let r = is f 0 refl refl refl in
    let e : fits text p why ≡ true = sym (fit f.storage p r) ∙ fitting in
    let which = stands text p why e in
    record {
      base = f.storage;
      p = p;
      shows = r.shows (there_by p.mark which);
      begun = some_by p p.mark refl which (begun f 0 n some);
      inside = begins_inside f 0 n;
      room = room_by text p why e;
    }

some_instruction : (n : ℕ) → n ≢ 0 → 0 < n
some_instruction n h = omega (arith, h)

-- `a` is what was kept of the run, and `b` the same with another copy
module _ (bytes text : List ℕ) (c : Cpu) (n : ℕ) (a b : Attempt) (seen : List ℕ) (why : Why) (answer : Bool)
    (is : IsRunOf bytes text c n a) (some : n ≢ 0) (fit : Fits text a why answer) (fitting : answer ≡ true)
    (same : b ≡ record a { trial = seen }) where
  its : IsEnded a why
  its = ended bytes text c n a why answer is (some_instruction n some) fit fitting

  pub is_begun : 0 < length b.nest
  is_begun =
      subst (λ (x : Attempt). 0 < length x.nest) (sym same)
      (subst (λ (nest : List Begin). 0 < length nest) (sym its.shows.nest) its.begun)

  pub is_inside : b.begin.at < storage_size
  is_inside =
      subst (λ (x : Attempt). x.begin.at < storage_size) (sym same)
      (subst (λ x. x < storage_size) (sym its.shows.begun) its.inside)

  pub has_room : HasRoom why
  has_room = its.room

-- there is a run where a cause fits
pub is_there_where_it_fits : (bytes text : List ℕ) (c : Cpu) (n : ℕ) (a : Attempt) (why : Why) (b : Bool)
    → IsRunOf bytes text c n a → Fits text a why b → b ≡ true → mark_of a.mark ≢ run.Missing
is_there_where_it_fits bytes text c n a why b is fit fitting =
    let f = some_state bytes text c in
    let r = is f 0 refl refl refl in
    let e : fits text (runs f 0 n) why ≡ true = sym (fit f.storage (runs f 0 n) r) ∙ fitting in
    λ gone. there_by (runs f 0 n).mark (stands text (runs f 0 n) why e) (sym r.mark ∙ gone)

-- ---- what the run leaves

told_so : (base : Storage) (a : Attempt) (p : Run) (m : Mark) → Shows base a p → a.mark ≡ m
    → told_in m a.last.at a.image.address ≡ address_in (mark_of m) (last_step p.steps) p.cpu.address
told_so base a p Open shows e = ap (λ (c : Cpu). c.address) (sym shows.cpu)
told_so base a p Committed shows e = ap (λ (c : Cpu). c.address) (sym shows.cpu)
told_so base a p Overflowed shows e =
    let told = shows.last (sym shows.mark ∙ ap mark_of e) in
    sym told.address ∙ sym (ap (λ o. address_in run.Overflowed o p.cpu.address) told.there)
told_so base a p Missing shows e = ap (λ (c : Cpu). c.address) (sym shows.cpu)

resumed_so : (constrained : Bool) (steps : List Step)
    → (if constrained then begin_at steps else begin_at steps + begin_length steps)
    ≡ resumed_at constrained steps
resumed_so true [] = refl
resumed_so false [] = refl
resumed_so true (s ∷ steps) = refl
resumed_so false (s ∷ steps) = refl

module _ (base : Storage) (a : Attempt) (p : Run) (shows : Shows base a p) where
  image_is : cpu_of a.image ≡ p.cpu
  image_is = sym shows.cpu

  told_is : told_by a ≡ address_in p.mark (last_step p.steps) p.cpu.address
  told_is =
      told_so base a p a.mark shows refl
      ∙ ap (λ m. address_in m (last_step p.steps) p.cpu.address) shows.mark

  resumed_is : resumed_by a ≡ resumed_at (is_constrained p.nest) p.steps
  resumed_is =
      (λ k. if is_constrained (shows.nest k) then shows.begun k else shows.begun k + shows.begun_length k)
      ∙ resumed_so (is_constrained p.nest) p.steps

  block_is : (why : Why) → block_by a why ≡ block_after p why
  block_is why = λ k. block why (shows.nest k) (image_is k).general (told_is k)

  cpu_is : (saved : Cpu) (why : Why) → cpu_left a saved why ≡ cpu_after_abort saved p why
  cpu_is saved why = λ k.
      interrupted_after why (record (with_restored saved.general (outermost_mask (shows.nest k)) (image_is
      k)) {
        address = resumed_is k;
        condition = (cause_of why).condition;
      })

  pending_is : (why : Why) → pending_left a why ≡ pending_after (outermost_block p.nest) (block_after p why)
  pending_is why = λ k. pending_after (outermost_block (shows.nest k)) (block_is why k)

  waiting_is : (why : Why) → waiting_left a why ≡ waiting_after p.cpu.prefix (block_after p why) why
  waiting_is why = λ k. waiting_after (image_is k).prefix (block_is why k) why

-- ---- the entry

pub aborted : (f : FlatState) (i n : ℕ) (bytes text t : List ℕ) (s new : Slot) (a b : Attempt)
    (seen : List ℕ) (why : Why) (answer : Bool) → Holds f i bytes text s → may_act f i ≡ true → n ≢ 0
    → IsRunOf bytes text (cpu_of s.image) n a → Fits text a why answer → answer ≡ true
    → b ≡ record a { trial = seen } → t ≡ seen_by s.image.prefix b.lasting
    → cpu_of new.image ≡ cpu_left b (cpu_of s.image) why → pending_of new.pending ≡ pending_left b why
    → new.waiting ≡ waiting_left b why → apply f (Abort i n why) ≡ Some (holding f i t new)
unfolding apply remains
aborted f i n bytes text t s new a b seen why answer h may some is fit fitting same stored image pending
    waiting =
    let r = is f i h.storage h.text h.cpu in
    let p = runs f i n in
    let its : fits f.text p why ≡ true =
    ap (λ pages. fits pages p why) h.text ∙ sym (fit f.storage p r) ∙ fitting in
    let shows = r.shows (there_by p.mark (stands f.text p why its)) in
    let prefix : p.cpu.prefix ≡ s.image.prefix = run_prefix f i n ∙ ap (λ (c : Cpu). c.prefix) h.cpu in
    let lasting : t ≡ seen_by s.image.prefix a.lasting =
    stored ∙ ap (λ (x : Attempt). seen_by s.image.prefix x.lasting) same in
    let cpu : cpu_of new.image ≡ cpu_left a (cpu_of s.image) why =
    image ∙ ap (λ (x : Attempt). cpu_left x (cpu_of s.image) why) same in
    ap (λ x. only_where (x && (nat_lt 0 n && fits f.text p why)) (Some (remains f i p why))) may
    ∙ ap (λ x. only_where (x && fits f.text p why) (Some (remains f i p why)))
    (lt-ltb 0 n (some_instruction n some))
    ∙ ap (λ x. only_where x (Some (remains f i p why))) its
    ∙ ap (λ x. Some x)
    (held f i t new (laid_over f.storage p.lasting) (at_put f.cpus i (cpu_after_abort (f.cpus i) p why))
    (at_put f.pending i (pending_after (outermost_block p.nest) (block_after p why)))
    (at_put f.waiting i (waiting_after p.cpu.prefix (block_after p why) why))
    (seen_back (laid_over f.storage p.lasting) s.image.prefix a.lasting t s.image.prefix_in
    (shows.lasting ∙ ap (λ x. seen_by x (bytes_of (laid_over f.storage p.lasting))) prefix)
    shows.lasting_ends lasting)
    (ap (λ (c : Cpu). at_put f.cpus i c)
    (cpu ∙ cpu_is f.storage a p shows (cpu_of s.image) why
    ∙ ap (λ (c : Cpu). cpu_after_abort c p why) (sym h.cpu)))
    (ap (λ o. at_put f.pending i o)
    (pending ∙ ap (λ (x : Attempt). pending_left x why) same ∙ pending_is f.storage a p shows why))
    (ap (λ o. at_put f.waiting i o)
    (waiting ∙ ap (λ (x : Attempt). waiting_left x why) same ∙ waiting_is f.storage a p shows why)))

-- ---- where it does not fit

none_where : {A : Type 0} (b : Bool) (o : Option A) → b ≡ false → only_where b o ≡ None
none_where b o e = ap (λ x. only_where x o) e

pub may_not_abort : (f : FlatState) (i n : ℕ) (why : Why) → may_act f i ≡ false
    → apply f (Abort i n why) ≡ None
unfolding apply
may_not_abort f i n why may =
    none_where (may_act f i && (nat_lt 0 n && fits f.text (runs f i n) why)) _
    (ap (λ b. b && (nat_lt 0 n && fits f.text (runs f i n) why)) may)

pub none_aborted : (f : FlatState) (i n : ℕ) (why : Why) → n ≡ 0 → apply f (Abort i n why) ≡ None
unfolding apply
none_aborted f i n why none =
    none_where (may_act f i && (nat_lt 0 n && fits f.text (runs f i n) why)) _
    (and_right (may_act f i) (nat_lt 0 n && fits f.text (runs f i n) why)
    (ap (λ b. b && fits f.text (runs f i n) why) (ap (nat_lt 0) none)))

pub unfit : (f : FlatState) (i n : ℕ) (bytes text : List ℕ) (s : Slot) (a : Attempt) (why : Why)
    (answer : Bool) → Holds f i bytes text s → IsRunOf bytes text (cpu_of s.image) n a
    → Fits text a why answer → answer ≡ false → apply f (Abort i n why) ≡ None
unfolding apply
unfit f i n bytes text s a why answer h is fit never =
    let p = runs f i n in
    let its : fits f.text p why ≡ false =
    ap (λ pages. fits pages p why) h.text ∙ sym (fit f.storage p (is f i h.storage h.text h.cpu)) ∙ never in
    none_where (may_act f i && (nat_lt 0 n && fits f.text p why)) _
    (and_right (may_act f i) (nat_lt 0 n && fits f.text p why) (and_right (nat_lt 0 n) (fits f.text p why) its))
