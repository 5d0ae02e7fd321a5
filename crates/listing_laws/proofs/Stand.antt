-- A generated text stands for an image.
use Rattle.std.proofs.Common.{◌≡◌, ◌≢◌, ℕ, zero, suc, ◌+◌, ◌*◌, ◌<◌, ◌≤◌, ◌^◌, true, false}
use Rattle.std.proofs.Common.{List, [], ◌∷◌, ◌++◌}
use Rattle.std.proofs.Common.{length, map, drop, refl, sym, ap, ◌∙◌, arith, subst}
use Rattle.std.proofs.Common.{lt-ltb, le-ltb, lit<, lit≤, length-append, inl, inr}
use Rattle.std.specs.Prelude.{pos, Ok, Err, if◌then◌else◌, nat_lt, codes}
use Rattle.std.specs.List.{list_any}
use Rattle.std.proofs.lemmas.Bool.{ne_eqb, cases_eq}
use Rattle.tx_journal.specs.Content.{Content}
use Rattle.z_operands.specs.Values.{Table}
use Rattle.z_fields.specs.declared.fault.Kind.TheVariants.{BadDirective, OutOfRange}
use Rattle.z_operands.specs.declared.operation.Operation.TheVariants as operations
use Rattle.z_reading.specs.Listing.{Plan, Task, line_gives, operation_line, cpu_line, end_line, tasked}
use Rattle.z_reading.specs.Listing.{table_with}
use Rattle.z_setup.specs.Machine.{Machine, Known}
use Rattle.z_reading.specs.Text.{copies}
use Rattle.z_assemble.specs.Whole.{blank, ready, ready_for, known_in, image_of, First, Second, Stands}
use Rattle.listing_laws.proofs.Lines.{words_at, words_lie}
use Rattle.listing_laws.proofs.Terms.{label_name, name_word, capital_by, label_value, one_operand}
use Rattle.listing_laws.proofs.Codes.{cpu_is, show_is, end_is}
use Rattle.listing_laws.proofs.Placed.{known, none_behind}
use Rattle.listing_laws.proofs.Again.{task, cpu_goes, show_passes}
use Rattle.listing_laws.proofs.Texts.{Line, written, ended, text_of_lines, lines_are, Runs, runs_on}
use Rattle.listing_laws.proofs.Texts.{first_runs, text_short, lines_count}
use Rattle.listing_laws.proofs.Generated.{cpu_line_of, show_line_of, end_line_of, program_lines, start, loop}
use Rattle.listing_laws.proofs.Generated.{HasProgram, HasNone, AllGo, go_on, Stage}
use Rattle.listing_laws.proofs.Programs.{hit, missed, other_letter, other_number, two_values}
use Rattle.listing_laws.proofs.Programs.{program_runs}
use Rattle.z_assemble.proofs.Over.{copies_size}

pub le_before : (j k : ℕ) → suc j ≤ k → j ≤ k
le_before j k h = omega arith

pub below_ten : (j : ℕ) → suc j ≤ 8 → j < 10
below_ten j h = omega arith

-- ---- nothing is placed at first

pub none_placed : (n : ℕ) → list_any (λ b. b) (copies n false) ≡ false
unfolding copies
none_placed zero = refl
none_placed (suc n) = none_placed n

free_from : (h n : ℕ) → list_any (λ b. b) (drop h (copies n false)) ≡ false
free_from h n = none_behind h (copies n false) (none_placed n)

-- ---- the second reading over lines

pub second_on : (k : Known) (xs ys : List Task) (m r q : Machine) → Second k xs m r → Second k ys r q
    → Second k (xs ++ ys) m q
second_on k [] ys m r q h s = subst (λ (o : Machine). Second k ys o q) (sym h) s
second_on k (x ∷ xs) ys m r q h s = (h.0, h.1, second_on k xs ys h.0 r q h.2 s)

module _ (c : ℕ) (most : c ≤ 8) where
  second_all : (k : Known) (ts : List Task) (m : Machine) → AllGo c most k ts → (q : Machine) × Second k ts m
      q × (q.shows ≡ m.shows)
  second_all k [] m all = (m, refl, refl)
  second_all k (t ∷ ts) m all =
      let one = all.0 m in
      let rest = second_all k ts one.0 all.1 in
      (rest.0, (one.0, one.1, rest.1), rest.2 ∙ one.2)

  -- so many CPUs have their line, and so many programs are there
  record State (cpus j : ℕ) (p : Plan) : Type 0 where
    stage : Stage c most (start j) cpus p.labels p
    past : (q : ℕ) → q < j → HasProgram p.labels q
    ahead : (q : ℕ) → j ≤ q → q < 10 → HasNone p.labels q

  blank_state : State 0 0 blank
  unfolding blank
  blank_state = record {
    stage = record {
      here = refl;
      free = (free_from 16384 1048576, copies_size 1048576 false);
      open_yet = refl;
      count = refl;
      names = refl;
      tasks = λ k all. tt;
    };
    past = λ q below. absurd (omega arith);
    ahead = λ q from few. record { entry = refl; loops = refl };
  }

  -- ---- the lines of the CPUs

  unfoldable pub cpus_to : (j : ℕ) → j ≤ 8 → List Line
  cpus_to zero h = []
  cpus_to (suc j) h = cpus_to j (le_before j 8 h) ++ cpu_line_of j (below_ten j h) ∷ []

  cpu_step : (i : ℕ) (few : i < 10) (n : ℕ) (p : Plan) → i < c → State i 0 p
      → (r : Plan) × (line_gives n (written (cpu_line_of i few)) p ≡ Ok r) × State (suc i) 0 r
  unfolding operation_line cpu_line
  cpu_step i few n p among s =
      let l = cpu_line_of i few in
      let r = tasked n p.here (written l) operations.Cpu (record p { cpus = p.cpus + 1 }) in
      let room : p.cpus < 16 = omega (arith, s.stage.count) in (
        r,
        known l.label l.op l.ws l.said operations.Cpu n p cpu_is s.stage.open_yet refl refl
            ∙ ap (λ b. if b then Ok r else Err OutOfRange) (lt-ltb p.cpus 16 room),
        record {
          stage = record {
            here = s.stage.here;
            free = s.stage.free;
            open_yet = s.stage.open_yet;
            count = ap (λ x. x + 1) s.stage.count ∙ omega arith;
            names = refl;
            tasks = λ k all. go_on c most k p.tasks _ (s.stage.tasks k all)
                (cpu_goes l.label l.op l.ws l.said k n p.here (start i) (omega arith)
                (one_operand (written l) k.labels p.here BadDirective (name_word 80 i) (pos (start i))
                (words_at l.label l.op l.ws)
                (label_value (written l) k.labels p.here 80 i (pos (start i)) (capital_by 80 i few refl) (all
                i among).entry)
                (words_lie l.label l.op l.ws l.said)));
          };
          past = s.past;
          ahead = s.ahead;
        },
      )

  cpus_run : (j : ℕ) (h : j ≤ 8) → j ≤ c → (n : ℕ) (p : Plan) → State 0 0 p → (q : Plan) × Runs n (cpus_to j
      h) p q × State j 0 q
  unfolding cpus_to
  cpus_run zero h among n p s = (p, refl, s)
  cpus_run (suc j) h among n p s =
      let before = le_before j 8 h in
      let rest = cpus_run j before (omega arith) n p s in
      let one = cpu_step j (below_ten j h) (n + length (cpus_to j before)) rest.0 (omega arith) rest.2 in (
        one.0,
        runs_on n (cpus_to j before) (cpu_line_of j (below_ten j h) ∷ []) p rest.0 one.0 rest.1 (
          one.0,
          one.1,
          refl {a = one.0},
        ),
        one.2,
      )

  -- ---- the programs

  module _ (rounds counter : ℕ → ℕ) (rounds_few : (i : ℕ) → rounds i < 32768) (counter_few : (i : ℕ) →
      counter i < 524288) where
    unfoldable pub programs_to : (j : ℕ) → j ≤ 8 → List Line
    programs_to zero h = []
    programs_to (suc j) h =
        programs_to j (le_before j 8 h) ++ program_lines j (rounds j) (counter j) (below_ten j h) (rounds_few
        j) (counter_few j)

    module _ (j : ℕ) (few : j < 10) (labels : Table) where
      abbrev new : Table
      new = table_with (label_name 76 j) (pos (loop j)) (table_with (label_name 80 j) (pos (start j)) labels)

      its_own : HasProgram new j
      its_own = record {
        entry = missed (label_name 80 j) 76 j (pos (loop j)) (table_with (label_name 80 j) (pos (start j))
            labels)
            (other_letter 80 76 j j (λ e. omega (arith, e))) ∙ hit 80 j (pos (start j)) labels;
        loops = hit 76 j (pos (loop j)) (table_with (label_name 80 j) (pos (start j)) labels);
      }

      entry_kept : (q : ℕ) → q < 10 → q ≢ j → new (label_name 80 q) ≡ labels (label_name 80 q)
      entry_kept q small other =
          missed (label_name 80 q) 76 j (pos (loop j)) (table_with (label_name 80 j) (pos (start j)) labels)
          (other_letter 80 76 q j (λ e. omega (arith, e)))
          ∙ missed (label_name 80 q) 80 j (pos (start j)) labels (other_number 80 q j small few other)

      loop_kept : (q : ℕ) → q < 10 → q ≢ j → new (label_name 76 q) ≡ labels (label_name 76 q)
      loop_kept q small other =
          missed (label_name 76 q) 76 j (pos (loop j)) (table_with (label_name 80 j) (pos (start j)) labels)
          (other_number 76 q j small few other)
          ∙ missed (label_name 76 q) 80 j (pos (start j)) labels (other_letter 76 80 q j (λ e. omega (
            arith,
            e,
          )))

    program_step : (j : ℕ) (h : suc j ≤ 8) (n : ℕ) (p : Plan) → j < c → State c j p
        → (r : Plan) × Runs n (program_lines j (rounds j) (counter j) (below_ten j h) (rounds_few j)
        (counter_few j)) p r × State c (suc j) r
    program_step j h n p among s =
        let few = below_ten j h in
        let run = program_runs c most j (rounds j) (counter j) few (rounds_few j) (counter_few j) n c
        p.labels p among (s.ahead j (omega arith) few) s.stage in
        let r = run.0 in
        let t = run.2 in
        let there : start j + 36 ≡ start (suc j) = omega arith in
        let names : r.labels ≡ new j few p.labels = t.names in
        let past : (q : ℕ) → q < suc j → HasProgram r.labels q =
        λ q below. elim (cases_eq q j) [
          | inl e ↦ subst (λ (ls : Table). HasProgram ls q) (sym names) (subst (HasProgram (new j few
              p.labels)) (sym e) (its_own j few p.labels))
          | inr e ↦
              let old = s.past q (omega (arith, e)) in
              subst (λ (ls : Table). HasProgram ls q) (sym names)
              (record {
                entry = entry_kept j few p.labels q (omega arith) e ∙ old.entry;
                loops = loop_kept
                    j few p.labels q (omega arith) e ∙ old.loops;
              })
        ] in
        let ahead : (q : ℕ) → suc j ≤ q → q < 10 → HasNone r.labels q =
        λ q from small.
        let other : q ≢ j = (λ e. omega arith) in
        let old = s.ahead q (omega arith) small in
        subst (λ (ls : Table). HasNone ls q) (sym names)
        (record {
          entry = entry_kept j few p.labels q small other ∙ old.entry;
          loops = loop_kept j
              few p.labels q small other ∙ old.loops;
        }) in (
          r,
          run.1,
          record {
            stage = record {
              here = t.here ∙ there;
              free = t.free;
              open_yet = t.open_yet;
              count = t.count;
              names = refl;
              tasks = t.tasks;
            };
            past = past;
            ahead = ahead;
          },
        )

    programs_run : (j : ℕ) (h : j ≤ 8) → j ≤ c → (n : ℕ) (p : Plan) → State c 0 p → (q : Plan) × Runs n
        (programs_to j h) p q × State c j q
    unfolding programs_to
    programs_run zero h among n p s = (p, refl, s)
    programs_run (suc j) h among n p s =
        let before = le_before j 8 h in
        let rest = programs_run j before (omega arith) n p s in
        let one = program_step j h (n + length (programs_to j before)) rest.0 (omega arith) rest.2 in (
          one.0,
          runs_on n (programs_to j before) (program_lines j (rounds j) (counter j) (below_ten j h)
              (rounds_few j) (counter_few j)) p rest.0 one.0 rest.1 one.1,
          one.2,
        )

    -- ---- the whole

    module _ (some : 0 < c) (w : ℕ) (w_some : 0 < w) (w_few : w ≤ 65536) where
      pub w_short : w < 10 ^ 10
      w_short = omega arith

      abbrev shown_line : Line
      shown_line = show_line_of w w_short

      unfoldable pub all_lines : List Line
      all_lines = cpus_to c most ++ (programs_to c most ++ (shown_line ∷ end_line_of ∷ []))

      record Done : Type 0 where
        plan : Plan
        runs : Runs 1 all_lines blank plan
        count : plan.cpus ≡ c
        before : List Task
        number : ℕ
        place : ℕ
        tasks : plan.tasks ≡ before ++ task [] (codes "SHOW") shown_line.ws shown_line.said operations.Show
            number place ∷ []
        go : AllGo c most (known_in plan) before

      last_runs : (n : ℕ) (p : Plan) → p.ended ≡ false
          → let r = tasked n p.here (written shown_line) operations.Show p in
          Runs n (shown_line ∷ end_line_of ∷ []) p (record r { ended = true })
      unfolding operation_line end_line
      last_runs n p open_yet =
          let r = tasked n p.here (written shown_line) operations.Show p in
          let e = end_line_of in (
            r,
            known shown_line.label shown_line.op shown_line.ws shown_line.said operations.Show n p show_is
                open_yet refl refl,
            (
              record r { ended = true },
              known e.label e.op e.ws e.said operations.End (n + 1) r end_is open_yet refl refl,
              refl {a = record r { ended = true }},
            ),
          )

      done : Done
      unfolding all_lines
      done =
          let one = cpus_run c most (omega arith) 1 blank blank_state in
          let n1 = 1 + length (cpus_to c most) in
          let two = programs_run c most (omega arith) n1 one.0 one.2 in
          let n2 = n1 + length (programs_to c most) in
          let p = two.0 in
          let r = tasked n2 p.here (written shown_line) operations.Show p in
          let plan = record r { ended = true } in
          let tail = runs_on n1 (programs_to c most) (shown_line ∷ end_line_of ∷ []) one.0 p plan two.1
          (last_runs n2 p two.2.stage.open_yet) in
          record {
            plan = plan;
            runs = runs_on 1 (cpus_to c most) (programs_to c most ++ (shown_line ∷ end_line_of ∷ [])) blank
                one.0 plan one.1 tail;
            count = two.2.stage.count;
            before = p.tasks;
            number = n2;
            place = p.here;
            tasks = refl;
            go = two.2.stage.tasks (known_in plan) two.2.past;
          }

      nothing_shown : (p : Plan) → (ready p).shows ≡ []
      unfolding ready_for
      nothing_shown p = refl

      second_done : (d : Done) → (q : Machine) × Second (known_in d.plan) d.plan.tasks (ready d.plan) q
      second_done d =
          let k = known_in d.plan in
          let rest = second_all k d.before (ready d.plan) d.go in
          let last = show_passes [] (codes "SHOW") shown_line.ws shown_line.said k d.number d.place 65536 w
          rest.0 w_some w_few
          (lit≤ tt) (omega arith) (rest.2 ∙ nothing_shown d.plan)
          (two_values [] (codes "SHOW") 65536 w shown_line.said k.labels d.place BadDirective (lit< tt)
          w_short) in
          let t = task [] (codes "SHOW") shown_line.ws shown_line.said operations.Show d.number d.place in (
            last.0,
            subst (λ (ts : List Task). Second k ts (ready d.plan) last.0) (sym d.tasks)
                (second_on k d.before (t ∷ []) (ready d.plan) rest.0 last.0 rest.1 (
                  last.0,
                  last.1,
                  refl {a =
                      last.0},
                )),
          )

      cpus_count : (j : ℕ) (h : j ≤ 8) → length (cpus_to j h) ≡ j
      unfolding cpus_to
      cpus_count zero h = refl
      cpus_count (suc j) h =
          omega (
            arith,
            cpus_count j (le_before j 8 h),
            length-append (cpus_to j (le_before j 8 h))
                (cpu_line_of j (below_ten j h) ∷ []),
          )

      programs_count : (j : ℕ) (h : j ≤ 8) → length (programs_to j h) ≡ 8 * j
      unfolding programs_to
      programs_count zero h = refl
      programs_count (suc j) h =
          omega (
            arith,
            programs_count j (le_before j 8 h),
            length-append (programs_to j (le_before j 8 h))
                (program_lines j (rounds j) (counter j) (below_ten j h) (rounds_few j) (counter_few j)),
          )

      lines_few : length all_lines ≤ 74
      unfolding all_lines
      lines_few = omega (
        arith,
        cpus_count c most,
        programs_count c most,
        length-append (cpus_to c most) (programs_to c most ++ (shown_line ∷ end_line_of ∷ [])),
        length-append (programs_to c most) (shown_line ∷ end_line_of ∷ []),
      )

      pub they_stand : (image : Content) × Stands (text_of_lines all_lines) image
      they_stand =
          let d = done in
          let s = second_done d in
          let ls = all_lines in (
            image_of d.plan.begins s.0,
            record {
              plan = d.plan;
              machine = s.0;
              size = le-ltb 16777216 (length (text_of_lines ls)) (omega (arith, text_short ls, lines_few));
              lines = ap (λ (xs : List (List ℕ)). nat_lt 262144 (length xs)) (lines_are ls)
                  ∙ le-ltb 262144 (length (map ended ls)) (omega (arith, lines_count ls, lines_few));
              first = subst (λ (xs : List (List ℕ)). First 1 xs blank d.plan) (sym (lines_are ls))
                  (first_runs 1 ls blank d.plan d.runs);
              second = s.1;
              some = ne_eqb d.plan.cpus 0 (λ e. omega (arith, d.count, e));
              is = refl;
            },
          )
