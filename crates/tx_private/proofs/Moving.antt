-- What is kept of a run shows the run with one instruction more.
use Rattle.std.proofs.Common.{◌≡◌, ℕ, zero, suc, ◌-◌, Bool, true, false, List, []}
use Rattle.std.proofs.Common.{◌∷◌, ◌++◌}
use Rattle.std.proofs.Common.{Option, Some, None, refl, sym, ap, subst, ◌∙◌, length, take, append-nil}
use Rattle.std.specs.Prelude.{if◌then◌else◌}
use Rattle.std.proofs.lemmas.Bool.{true≢false}
use Rattle.std.proofs.lemmas.List.Elements.{All-append}
use Rattle.z_regs.specs.Cpu.{Cpu, cpu_of}
use Rattle.z_regs.specs.Prefix.{storage_size, is_prefix}
use Rattle.z_regs.specs.Seen.{seen_by}
use Rattle.z_regs.specs.Absolute.{absolute_ranges}
use Rattle.z_regs.specs.declared.ranges.Range.{Range}
use Rattle.z_instr.specs.declared.instr.Instr.{Instr}
use Rattle.z_instr.specs.Table.{entry_at}
use Rattle.z_instr.specs.Roles.{begins, is_end}
use Rattle.z_effect.specs.One.{length_of}
use Rattle.z_effect.specs.Beginning.{begin_of}
use Rattle.z_effect.specs.After.{ranges_of, with_stored, AreInside}
use Rattle.tx_control.specs.Nesting.{is_constrained}
use Rattle.tx_control.specs.declared.begins.Begin.{Begin}
use Rattle.tx_constraint.specs.Operations.{ends}
use Rattle.tx_constraint.specs.Constraints.{Step, Attempt, begun, with_step, text_breach, operand_breach}
use Rattle.tx_footprint.specs.Places.{IsInStorage}
use Rattle.tx_footprint.specs.Touched.{untouched, touching}
use Rattle.tx_serial.specs.Flat.{Storage, bytes_of, laid_over, operand_stores}
use Rattle.tx_serial.specs.Attempt.{Run, attempt_of, last_step}
use Rattle.tx_serial.specs.Attempt as run
use Rattle.tx_serial.specs.Fate.{Passes, operands, step_of, tests, first_refusal, broken}
use Rattle.tx_serial.specs.Fate.{broken_where}
use Rattle.tx_serial.specs.Fate.{text_refusal, restricted_refusal, specified_refusal, depth_refusal}
use Rattle.tx_serial.specs.Fate.{operand_refusal, place_refusal, overflow_refusal}
use Rattle.tx_serial.specs.Run.{with_instruction, lasting_of, nest_after, may_follow}
use Rattle.z_instr.specs.Roles.{stores_lastingly}
use Rattle.tx_serial.proofs.Copies.{laid_twice}
use Rattle.tx_private.specs.declared.attempt.Attempt as kept
use Rattle.tx_private.specs.declared.execution.Completion.{Completion}
use Rattle.tx_private.specs.declared.attempt.Told as kept_told
use Rattle.tx_constraint.specs.Kept.{kept_at}
use Rattle.tx_private.specs.Shows.{Shows, IsLimited, IsTold, EndsInTime, mark_of, begin_at, begin_length}
use Rattle.tx_private.specs.Shows.{is_empty}
use Rattle.tx_private.specs.Moved.{HasMoved}
use Rattle.tx_private.proofs.Inside.{inside, in_storage}
use Rattle.tx_private.proofs.Settled.{stored_copy, ends_still, touched_more, begin_stays, some_steps}
use Rattle.tx_private.proofs.Settled.{no_steps}
use Rattle.tx_private.proofs.Settled.{limited_first, limited_more, plain_inside}
use Rattle.tx_serial.proofs.FreeOperands.{found_none, none_first}
use Rattle.tx_serial.proofs.Starting.{last_is}

-- ---- no test refuses

pub record NoneRefuses (text : List ℕ) (p : Run) (i : Instr) : Type 0 where
  pub on_text : text_refusal p i ≡ None
  pub on_depth : depth_refusal p i ≡ None
  pub on_operands : operand_refusal text p i ≡ None
  pub on_places : place_refusal p i ≡ None
  pub on_overflow : overflow_refusal p i ≡ None

pub none_refuses : (text : List ℕ) (p : Run) (i : Instr) → first_refusal (tests text p i) ≡ None
    → NoneRefuses text p i
none_refuses text p i h =
    let one = none_first (text_refusal p i) _ h in
    let two = none_first (restricted_refusal p i) _ one in
    let three = none_first (specified_refusal p i) _ two in
    let four = none_first (depth_refusal p i) _ three in
    let five = none_first (operand_refusal text p i) _ four in
    let six = none_first (place_refusal p i) _ five in
    record {
      on_text = found_none (text_refusal p i) _ h;
      on_depth = found_none (depth_refusal p i) _ three;
      on_operands = found_none (operand_refusal text p i) _ four;
      on_places = found_none (place_refusal p i) _ five;
      on_overflow = found_none (overflow_refusal p i) [] six;
    }

no_number : (o : Option ℕ) (i : Instr) → broken_where true (λ a. o) (begun 0) i ≡ None → o ≡ None
no_number None i h = refl
no_number (Some n) i h = absurd (cc)

unbroken : (breach : Attempt → Option ℕ) (p : Run) (i : Instr) → is_constrained p.nest ≡ true
    → broken breach p i ≡ None
    → breach (with_step (attempt_of p.steps) (step_of i (operands i p.cpu) p.cpu)) ≡ None
unbroken breach p i is h =
    let a = with_step (attempt_of p.steps) (step_of i (operands i p.cpu) p.cpu) in
    no_number (breach a) i (sym (ap (λ b. broken_where b breach a i) is) ∙ h)

-- ---- lasting stores

lasting_more : (base : Storage) (p : Run) (i : Instr) (old new bytes : List ℕ) (t : Bool)
    → is_prefix p.cpu.prefix ≡ true → length old ≡ storage_size
    → old ≡ seen_by p.cpu.prefix (bytes_of (laid_over base p.lasting)) → EndsInTime (laid_over base p.lasting)
    → AreInside (ranges_of i p.cpu) old → stores_lastingly (entry_at i.op.number) ≡ t
    → (stores_lastingly (entry_at i.op.number) ≡ true → new ≡ with_stored (ranges_of i p.cpu) bytes old)
    → (stores_lastingly (entry_at i.op.number) ≡ false → new ≡ old)
    → (new ≡ seen_by p.cpu.prefix (bytes_of (laid_over base (p.lasting ++ lasting_of i (operand_stores
    p.cpu.prefix
    (operands i p.cpu) bytes)))))
    × EndsInTime (laid_over base (p.lasting ++ lasting_of i (operand_stores p.cpu.prefix (operands i p.cpu)
    bytes)))
lasting_more base p i old new bytes true ok size shown ends inside e stored same =
    let stores = operand_stores p.cpu.prefix (operands i p.cpu) bytes in
    let all : laid_over (laid_over base p.lasting) stores
    ≡ laid_over base (p.lasting ++ lasting_of i stores) =
    sym (laid_twice p.lasting stores base)
    ∙ ap (λ t. laid_over base (p.lasting ++ (if t then stores else []))) (sym e) in (
      stored e ∙ stored_copy i p (laid_over base p.lasting) old bytes ok shown inside
          ∙ ap (λ s. seen_by p.cpu.prefix (bytes_of s)) all,
      subst EndsInTime all (ends_still i p (laid_over base p.lasting) old bytes ok size inside ends),
    )
lasting_more base p i old new bytes false ok size shown ends inside e stored same =
    let stores = operand_stores p.cpu.prefix (operands i p.cpu) bytes in
    let all : laid_over base p.lasting ≡ laid_over base (p.lasting ++ lasting_of i stores) =
    ap (laid_over base) (sym (append-nil p.lasting))
    ∙ ap (λ t. laid_over base (p.lasting ++ (if t then stores else []))) (sym e) in (
      same e ∙ shown ∙ ap (λ s. seen_by p.cpu.prefix (bytes_of s)) all,
      subst EndsInTime all ends,
    )

-- ---- constraints

-- the open begins behind the first one
first_nest : (i : Instr) (general : List ℕ) → begins (entry_at i.op.number) ≡ true
    → nest_after i general [] ≡ begin_of i general ∷ []
first_nest i general h =
    ap (λ b. if b then [] ++ begin_of i general ∷ [] else if is_end (entry_at i.op.number) then [] else []) h

-- behind an instruction inside a transaction the outermost begin is the same, if there is one
same_kind : (b : Begin) (bs : List Begin) (n : ℕ) → is_constrained (b ∷ bs) ≡ false
    → is_constrained (take n (b ∷ bs)) ≡ false
same_kind b bs zero h = refl
same_kind b bs (suc n) h = h

not_constrained : (b : Begin) (bs : List Begin) (i : Instr) (general : List ℕ) (x y : Bool)
    → is_constrained (b ∷ bs) ≡ false
    → is_constrained (if x then (b ∷ bs) ++ begin_of i general ∷ []
    else if y then take (length (b ∷ bs) - 1) (b ∷ bs) else b ∷ bs) ≡ false
not_constrained b bs i general true y h = h
not_constrained b bs i general false true h = same_kind b bs (length (b ∷ bs) - 1) h
not_constrained b bs i general false false h = h

-- an end of the one open begin leaves none
closes : (b : Begin) (bs : List Begin) → length (b ∷ bs) ≡ 1 → take (length (b ∷ bs) - 1) (b ∷ bs) ≡ []
closes b bs h = ap (λ n. take (n - 1) (b ∷ bs)) h

inside_nest : (b : Begin) (bs : List Begin) (i : Instr) (general : List ℕ) (y : Bool)
    → begins (entry_at i.op.number) ≡ false → is_end (entry_at i.op.number) ≡ y
    → nest_after i general (b ∷ bs) ≡ (if y then take (length (b ∷ bs) - 1) (b ∷ bs) else b ∷ bs)
inside_nest b bs i general y h e =
    ap (λ x. if x then (b ∷ bs) ++ begin_of i general ∷ []
    else if is_end (entry_at i.op.number) then take (length (b ∷ bs) - 1) (b ∷ bs) else b ∷ bs) h
    ∙ ap (λ z. if z then take (length (b ∷ bs) - 1) (b ∷ bs) else b ∷ bs) e

module _ (base : Storage) (text : List ℕ) (a b : kept.Attempt) (p q : Run) (i : Instr) (absolute : List Range)
    (done : Completion) (shows : Shows base a p) (passes : Passes text p i (operands i p.cpu))
    (open_mark : p.mark ≡ run.Open) (follows : may_follow p.nest i ≡ true)
    (moved : HasMoved i (operands i p.cpu) absolute done a b)
    (steps : q.steps ≡ p.steps ++ step_of i (operands i p.cpu) p.cpu ∷ [])
    (nest : q.nest ≡ nest_after i p.cpu.general p.nest) where
  none : NoneRefuses text p i
  none = none_refuses text p i passes.passed

  same_address : a.image.address ≡ p.cpu.address
  same_address = ap (λ (c : Cpu). c.address) (sym shows.cpu)

  -- within a constrained transaction
  limited_inside : (x : Begin) (xs : List Begin) (y : Bool) → p.nest ≡ x ∷ xs → is_constrained p.nest ≡ true
      → is_end (entry_at i.op.number) ≡ y → is_constrained q.nest ≡ true → IsLimited b.constraint q
  limited_inside x xs y e is ended constrained =
      let old = shows.limited is in
      let s = step_of i (operands i p.cpu) p.cpu in
      let text_kept = unbroken text_breach p i is none.on_text in
      let places_kept = unbroken operand_breach p i is none.on_places in
      let plain = plain_inside (attempt_of p.steps) s text_kept in
      let here = inside_nest x xs i p.cpu.general y plain ended in
      let now : q.nest ≡ (if y then take (length (x ∷ xs) - 1) (x ∷ xs) else x ∷ xs) =
      nest ∙ ap (nest_after i p.cpu.general) e ∙ here in
      by y ended now old text_kept places_kept
    where
      by : (y : Bool) → is_end (entry_at i.op.number) ≡ y
          → q.nest ≡ (if y then take (length (x ∷ xs) - 1) (x ∷ xs) else x ∷ xs) → IsLimited a.constraint p
          → text_breach (with_step (attempt_of p.steps) (step_of i (operands i p.cpu) p.cpu)) ≡ None
          → operand_breach (with_step (attempt_of p.steps) (step_of i (operands i p.cpu) p.cpu)) ≡ None
          → IsLimited b.constraint q
      by true ended now old t o =
          let size : length (x ∷ xs) ≡ 1 = ap (λ (n : List Begin). length n) (sym e) ∙ old.one in
          absurd (true≢false (sym constrained ∙ ap is_constrained (now ∙ closes x xs size)))
      by false ended now old t o =
          limited_more p q a.constraint b.constraint (step_of i (operands i p.cpu) p.cpu) old
          (some_steps p.steps (ap is_empty (sym e) ∙ shows.started open_mark)) steps (now ∙ sym e)
          (moved.further (ap is_constrained shows.nest ∙ is)) ended t o

  limited_by : (n : List Begin) (c : Bool) → p.nest ≡ n → is_constrained p.nest ≡ c
      → is_constrained q.nest ≡ true
      → IsLimited b.constraint q
  limited_by [] c e is constrained =
      let begin : begins (entry_at i.op.number) ≡ true = subst (λ n. may_follow n i ≡ true) e follows in
      limited_first p q i b.constraint (step_of i (operands i p.cpu) p.cpu) (begin_of i p.cpu.general)
      (no_steps p.steps (ap is_empty (sym e) ∙ shows.started open_mark)) steps
      (nest ∙ ap (nest_after i p.cpu.general) e ∙ first_nest i p.cpu.general begin)
      (moved.limit (shows.nest ∙ e) ∙ ap kept_at same_address)
  limited_by (x ∷ xs) true e is constrained =
      limited_inside x xs (is_end (entry_at i.op.number)) e is refl constrained
  limited_by (x ∷ xs) false e is constrained =
      absurd (true≢false (sym constrained ∙ ap is_constrained (nest ∙ ap (nest_after i p.cpu.general) e)
      ∙ not_constrained x xs i p.cpu.general (begins (entry_at i.op.number)) (is_end (entry_at i.op.number))
      (ap is_constrained (sym e) ∙ is)))

  pub limited_after : is_constrained q.nest ≡ true → IsLimited b.constraint q
  limited_after = limited_by p.nest (is_constrained p.nest) refl refl

-- ---- the whole

empty_never : {A : Type 0} (xs : List A) (x : A) → is_empty (xs ++ x ∷ []) ≡ false
empty_never [] x = refl
empty_never (y ∷ ys) x = refl

-- the begin behind the first instruction, and behind later ones
first_begin : (steps : List Step) (s : Step) → steps ≡ []
    → (begin_at (steps ++ s ∷ []) ≡ s.at) × (begin_length (steps ++ s ∷ []) ≡ length_of s.instruction)
first_begin steps s h = (
  ap (λ xs. begin_at (xs ++ s ∷ [])) h,
  ap (λ xs. begin_length (xs ++ s ∷ [])) h,
)

module _ (base : Storage) (text : List ℕ) (a b : kept.Attempt) (p : Run) (i : Instr) (absolute : List Range)
    (done : Completion) (c : Cpu) (bytes : List ℕ) (m : run.Mark) (shows : Shows base a p)
    (passes : Passes text p i (operands i p.cpu)) (ok : is_prefix p.cpu.prefix ≡ true)
    (open_mark : p.mark ≡ run.Open) (follows : may_follow p.nest i ≡ true)
    (moved : HasMoved i (operands i p.cpu) absolute done a b)
    (places : absolute ≡ absolute_ranges p.cpu.prefix (operands i p.cpu)) (size : length a.seen ≡
    storage_size)
    (lasting_size : length a.lasting ≡ storage_size) (image : c ≡ cpu_of b.image)
    (prefix : c.prefix ≡ p.cpu.prefix) (seen : b.seen ≡ with_stored (ranges_of i p.cpu) bytes a.seen)
    (lasting : stores_lastingly (entry_at i.op.number) ≡ true
    → b.lasting ≡ with_stored (ranges_of i p.cpu) bytes a.lasting)
    (mark : mark_of b.mark ≡ m)
    (nonempty : m ≡ run.Open → is_empty (nest_after i p.cpu.general p.nest) ≡ false) where
  abbrev q : Run
  q = record (with_instruction i (operands i p.cpu) c (operand_stores p.cpu.prefix (operands i p.cpu) bytes)
      p) {
        mark = m;
      }

  step : Step
  step = step_of i (operands i p.cpu) p.cpu

  refuses : NoneRefuses text p i
  refuses = none_refuses text p i passes.passed

  within : AreInside (ranges_of i p.cpu) a.seen
  within = inside text p i a.seen size refuses.on_operands

  lasting_within : AreInside (ranges_of i p.cpu) a.lasting
  lasting_within = inside text p i a.lasting lasting_size refuses.on_operands

  kept_lasting : (b.lasting ≡ seen_by p.cpu.prefix (bytes_of (laid_over base q.lasting)))
      × EndsInTime (laid_over base q.lasting)
  kept_lasting =
      lasting_more base p i a.lasting b.lasting bytes (stores_lastingly (entry_at i.op.number)) ok
      lasting_size
      shows.lasting shows.lasting_ends lasting_within refl lasting moved.same_lasting

  told : (x : kept_told.Told) → x.at ≡ a.image.address → x.length ≡ length_of i
      → IsTold x.at x.length (last_step q.steps)
  told x e d = record {
    step = step_of i (operands i p.cpu) p.cpu;
    there = last_is p.steps (step_of i (operands i p.cpu) p.cpu);
    address = ap (λ (d : Cpu). d.address) shows.cpu ∙ sym e;
    size = sym d;
  }

  begun_by : (n : List Begin) → p.nest ≡ n
      → (b.begin.at ≡ begin_at q.steps) × (b.begin.length ≡ begin_length q.steps)
  begun_by [] e =
      let new = moved.begin (shows.nest ∙ e) in
      let first = first_begin p.steps (step_of i (operands i p.cpu) p.cpu)
      (no_steps p.steps (ap is_empty (sym e) ∙ shows.started open_mark)) in (
        ap (λ (t : kept_told.Told). t.at) new ∙ ap (λ (d : Cpu). d.address) (sym shows.cpu) ∙ sym first.0,
        ap (λ (t : kept_told.Told). t.length) new ∙ sym first.1,
      )
  begun_by (x ∷ xs) e =
      let old = moved.same_begin (λ none. some_begin x xs (sym e ∙ sym shows.nest ∙ none)) in
      let stays = begin_stays p.steps (step_of i (operands i p.cpu) p.cpu)
      (some_steps p.steps (ap is_empty (sym e) ∙ shows.started open_mark)) in (
        ap (λ (t : kept_told.Told). t.at) old ∙ shows.begun ∙ sym stays.0,
        ap (λ (t : kept_told.Told). t.length) old ∙ shows.begun_length ∙ sym stays.1,
      )
    where
      some_begin : (x : Begin) (xs : List Begin) → x ∷ xs ≡ [] → ⊥
      some_begin x xs h = cc

  pub shows_next : Shows base b q
  shows_next = record {
    mark = mark;
    cpu = image;
    copy = seen ∙ stored_copy i p p.copy a.seen bytes ok shows.copy within
        ∙ ap (λ x. seen_by x (bytes_of q.copy)) (sym prefix);
    copy_ends = ends_still i p p.copy a.seen bytes ok size within shows.copy_ends;
    lasting = kept_lasting.0 ∙ ap (λ x. seen_by x (bytes_of (laid_over base q.lasting))) (sym prefix);
    lasting_ends = kept_lasting.1;
    nest = moved.nest ∙ ap (nest_after i a.image.general) shows.nest
        ∙ ap (λ (d : Cpu). nest_after i d.general p.nest) (sym shows.cpu);
    sets = moved.sets ∙ ap (λ s. touching s absolute) shows.sets ∙ touched_more p absolute
        ∙ ap (λ r. touching untouched (p.touched ++ r)) places;
    touched = All-append IsInStorage p.touched (absolute_ranges p.cpu.prefix (operands i p.cpu)) shows.touched
        (in_storage text p i ok refuses.on_operands);
    limited = limited_after base text a b p q i absolute done shows passes open_mark follows moved refl refl;
    begun = (begun_by p.nest refl).0;
    begun_length = (begun_by p.nest refl).1;
    started = λ e. nonempty e ∙ sym (empty_never p.steps (step_of i (operands i p.cpu) p.cpu));
    last = λ e. told b.last moved.last_at moved.last_length;
  }
