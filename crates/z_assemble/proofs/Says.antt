-- The functions on lists and the relations on whole lines say the same.
use Rattle.std.proofs.Common.{◌≡◌, ℕ, ◌+◌, Bool, true, false, List, [], ◌∷◌, length, Result, Ok, Err, ◌⊎◌}
use Rattle.std.proofs.Common.{inl, inr, refl, sym, ap, ◌∙◌, subst, nat_lt, ◌==◌, if◌then◌else◌, ◌≤◌, le-ltb}
use Rattle.std.specs.Prelude.{IfOk, IfErr}
use Rattle.tx_journal.specs.Content.{Content}
use Rattle.z_reading.specs.Listing.{Plan, Task, line_gives}
use Rattle.z_setup.specs.Machine.{Machine, Known, task_gives}
use Rattle.z_fields.specs.Pieces.{without_end}
use Rattle.z_reading.specs.Text.{lines_of}
use Rattle.z_assemble.specs.Whole.{◌>>=◌, on, fault_at, blank, ready, known_in, image_of, first_over}
use Rattle.z_assemble.specs.Whole.{most_bytes, most_lines}
use Rattle.z_assemble.specs.Whole.{second_over, finished, after_first, over_lines, assembled, First, Second}
use Rattle.z_assemble.specs.Whole.{FaultInFirst, FaultInSecond, Stands, FirstFault, too_long, too_many}
use Rattle.z_assemble.specs.Whole.{in_first, in_second, no_cpu, IsOutcome, HasFault}
use Rattle.z_assemble.specs.declared.fault.AssembleFault.{AssembleFault}
use Rattle.z_assemble.specs.declared.fault.AssembleFault.TheVariants as ends
use Rattle.z_fields.specs.declared.fault.Kind.{Kind}
use Rattle.z_fields.specs.declared.fault.Kind.TheVariants.{ListingTooLong, TooManyLines, NoCpu}
use Rattle.z_assemble.specs.declared.fault.ListingFault.{ListingFault}

-- ---- the first reading

abbrev pub SaysFirst : ℕ → List (List ℕ) → Plan → Result Plan ListingFault → Type 0
SaysFirst n ls p (Ok q) = First n ls p q
SaysFirst n ls p (Err f) = FaultInFirst n ls p f

first_line : (n : ℕ) (l : List ℕ) (ls : List (List ℕ)) (p r : Plan) → line_gives n (without_end l) p ≡ Ok r →
    (s : Result Plan ListingFault) → SaysFirst (n + 1) ls r s → SaysFirst n (l ∷ ls) p s
first_line n l ls p r e (Ok q) s = (r, e, s)
first_line n l ls p r e (Err f) s = inr (r, e, s)

first_by : (n : ℕ) (l : List ℕ) (ls : List (List ℕ)) (p : Plan) (o : Result Plan Kind) →
    line_gives n (without_end l) p ≡ o →
    ((r : Plan) → SaysFirst (n + 1) ls r (first_over (n + 1) ls r)) →
    SaysFirst n (l ∷ ls) p (on n o >>= first_over (n + 1) ls)
first_by n l ls p (Ok r) e h = first_line n l ls p r e (first_over (n + 1) ls r) (h r)
first_by n l ls p (Err k) e h = inl (k, e, refl)

pub says_first : (n : ℕ) (ls : List (List ℕ)) (p : Plan) → SaysFirst n ls p (first_over n ls p)
unfolding first_over
says_first n [] p = refl
says_first n (l ∷ ls) p = first_by n l ls p (line_gives n (without_end l) p) refl
    (λ r. says_first (n + 1) ls r)

pub first_is : (n : ℕ) (ls : List (List ℕ)) (p q : Plan) → First n ls p q → first_over n ls p ≡ Ok q
unfolding first_over
first_is n [] p q h = ap Ok h
first_is n (l ∷ ls) p q h = ap (λ o. on n o >>= first_over (n + 1) ls) h.1 ∙ first_is (n + 1) ls h.0 q h.2

pub first_fault_is : (n : ℕ) (ls : List (List ℕ)) (p : Plan) (f : ListingFault) → FaultInFirst n ls p f →
    first_over n ls p ≡ Err f
unfolding first_over
first_fault_is n [] p f h = absurd h
first_fault_is n (l ∷ ls) p f (inl h) = ap (λ o. on n o >>= first_over (n + 1) ls) h.1 ∙ ap Err (sym h.2)
first_fault_is n (l ∷ ls) p f (inr h) = ap (λ o. on n o >>= first_over (n + 1) ls) h.1
    ∙ first_fault_is (n + 1) ls h.0 f h.2

-- ---- the second reading

abbrev pub SaysSecond : Known → List Task → Machine → Result Machine ListingFault → Type 0
SaysSecond k ts m (Ok q) = Second k ts m q
SaysSecond k ts m (Err f) = FaultInSecond k ts m f

second_task : (k : Known) (t : Task) (ts : List Task) (m r : Machine) → task_gives k t m ≡ Ok r →
    (s : Result Machine ListingFault) → SaysSecond k ts r s → SaysSecond k (t ∷ ts) m s
second_task k t ts m r e (Ok q) s = (r, e, s)
second_task k t ts m r e (Err f) s = inr (r, e, s)

second_by : (k : Known) (t : Task) (ts : List Task) (m : Machine) (o : Result Machine Kind) →
    task_gives k t m ≡ o →
    ((r : Machine) → SaysSecond k ts r (second_over k ts r)) →
    SaysSecond k (t ∷ ts) m (on t.line o >>= second_over k ts)
second_by k t ts m (Ok r) e h = second_task k t ts m r e (second_over k ts r) (h r)
second_by k t ts m (Err d) e h = inl (d, e, refl)

pub says_second : (k : Known) (ts : List Task) (m : Machine) → SaysSecond k ts m (second_over k ts m)
unfolding second_over
says_second k [] m = refl
says_second k (t ∷ ts) m = second_by k t ts m (task_gives k t m) refl (λ r. says_second k ts r)

pub second_is : (k : Known) (ts : List Task) (m q : Machine) → Second k ts m q → second_over k ts m ≡ Ok q
unfolding second_over
second_is k [] m q h = ap Ok h
second_is k (t ∷ ts) m q h = ap (λ o. on t.line o >>= second_over k ts) h.1 ∙ second_is k ts h.0 q h.2

pub second_fault_is : (k : Known) (ts : List Task) (m : Machine) (f : ListingFault) → FaultInSecond k ts m f →
    second_over k ts m ≡ Err f
unfolding second_over
second_fault_is k [] m f h = absurd h
second_fault_is k (t ∷ ts) m f (inl h) = ap (λ o. on t.line o >>= second_over k ts) h.1 ∙ ap Err (sym h.2)
second_fault_is k (t ∷ ts) m f (inr h) = ap (λ o. on t.line o >>= second_over k ts) h.1
    ∙ second_fault_is k ts h.0 f h.2

-- ---- the whole

abbrev pub Says : List ℕ → Result Content ListingFault → Type 0
Says text (Ok image) = Stands text image
Says text (Err f) = FirstFault text f

module _ (text : List ℕ) where
  finished_says : nat_lt most_bytes (length text) ≡ false → nat_lt most_lines (length (lines_of text)) ≡ false →
      (p : Plan) → First 1 (lines_of text) blank p →
      (m : Machine) → Second (known_in p) p.tasks (ready p) m → (b : Bool) → (p.cpus == 0) ≡ b →
      Says text (if b then Err (fault_at 0 NoCpu) else Ok (image_of p.begins m))
  finished_says s l p f m g true e = no_cpu s l p f m g e refl
  finished_says s l p f m g false e = record {
    plan = p;
    machine = m;
    size = s;
    lines = l;
    first = f;
    second =
        g;
    some = e;
    is = refl;
  }

  second_says : nat_lt most_bytes (length text) ≡ false → nat_lt most_lines (length (lines_of text)) ≡ false →
      (p : Plan) → First 1 (lines_of text) blank p →
      (r : Result Machine ListingFault) → SaysSecond (known_in p) p.tasks (ready p) r →
      Says text (r >>= finished p)
  second_says s l p f (Ok m) g = finished_says s l p f m g (p.cpus == 0) refl
  second_says s l p f (Err e) g = in_second s l p f g

  first_says : nat_lt most_bytes (length text) ≡ false → nat_lt most_lines (length (lines_of text)) ≡ false →
      (r : Result Plan ListingFault) → SaysFirst 1 (lines_of text) blank r → Says text (r >>= after_first)
  first_says s l (Ok p) f = second_says s l p f (second_over (known_in p) p.tasks (ready p))
      (says_second (known_in p) p.tasks (ready p))
  first_says s l (Err e) f = in_first s l f

  lines_say : nat_lt most_bytes (length text) ≡ false → (b : Bool) →
      nat_lt most_lines (length (lines_of text)) ≡ b →
      Says text (if b then Err (fault_at 0 TooManyLines) else first_over 1
      (lines_of text) blank >>= after_first)
  lines_say s true e = too_many s e refl
  lines_say s false e = first_says s e (first_over 1 (lines_of text) blank)
      (says_first 1 (lines_of text) blank)

  text_says : (b : Bool) → nat_lt most_bytes (length text) ≡ b →
      Says text (if b then Err (fault_at 0 ListingTooLong) else over_lines (lines_of text))
  text_says true e = too_long e refl
  text_says false e = lines_say e (nat_lt most_lines (length (lines_of text))) refl

  pub says : Says text (assembled text)
  unfolding assembled
  says = text_says (nat_lt most_bytes (length text)) refl

  -- the other way: what stands is what is computed
  short_is : nat_lt most_bytes (length text) ≡ false → assembled text ≡ over_lines (lines_of text)
  unfolding assembled
  short_is s = ap (λ b. if b then Err (fault_at 0 ListingTooLong) else over_lines (lines_of text)) s

  few_is : nat_lt most_bytes (length text) ≡ false → nat_lt most_lines (length (lines_of text)) ≡ false →
      assembled text ≡ (first_over 1 (lines_of text) blank >>= after_first)
  few_is s l = short_is s ∙ ap (λ b. if b then Err (fault_at 0 TooManyLines) else first_over 1
      (lines_of text) blank >>= after_first) l

  plan_is : nat_lt most_bytes (length text) ≡ false → nat_lt most_lines (length (lines_of text)) ≡ false →
      (p : Plan) → First 1 (lines_of text) blank p → assembled text ≡ after_first p
  plan_is s l p f = few_is s l ∙ ap (λ r. r >>= after_first) (first_is 1 (lines_of text) blank p f)

  machine_is : nat_lt most_bytes (length text) ≡ false → nat_lt most_lines (length (lines_of text)) ≡ false →
      (p : Plan) → First 1 (lines_of text) blank p → (m : Machine) →
      Second (known_in p) p.tasks (ready p) m → assembled text ≡ finished p m
  machine_is s l p f m g = plan_is s l p f ∙ ap (λ r. r >>= finished p)
      (second_is (known_in p) p.tasks (ready p) m g)

  pub stands_is : (image : Content) → Stands text image → assembled text ≡ Ok image
  stands_is image h =
      machine_is h.size h.lines h.plan h.first h.machine h.second
      ∙ (ap (λ b. if b then Err (fault_at 0 NoCpu) else Ok (image_of h.plan.begins h.machine)) h.some
      ∙ ap Ok (sym h.is))

  pub fault_is : (f : ListingFault) → FirstFault text f → assembled text ≡ Err f
  unfolding assembled
  fault_is f (too_long s e) = ap (λ b. if b then Err (fault_at 0 ListingTooLong) else over_lines
      (lines_of text)) s ∙ ap Err (sym e)
  fault_is f (too_many s l e) =
      short_is s ∙ (ap (λ b. if b then Err (fault_at 0 TooManyLines) else first_over 1
      (lines_of text) blank >>= after_first) l ∙ ap Err (sym e))
  fault_is f (in_first s l h) = few_is s l ∙ ap (λ r. r >>= after_first)
      (first_fault_is 1 (lines_of text) blank f h)
  fault_is f (in_second s l p h g) = plan_is s l p h
      ∙ ap (λ r. r >>= finished p) (second_fault_is (known_in p) p.tasks (ready p) f g)
  fault_is f (no_cpu s l p h m g c e) =
      machine_is s l p h m g ∙ (ap (λ b. if b then Err (fault_at 0 NoCpu) else Ok (image_of p.begins m)) c
      ∙ ap Err (sym e))

-- ---- what the code promises

pub outcome_image : (text : List ℕ) (r : Result Content AssembleFault) → IsOutcome r (assembled text) →
    IfOk r (λ image. Stands text image)
outcome_image text (Ok image) h = subst (Says text) h (says text)
outcome_image text (Err e) h = tt

pub outcome_fault : (text : List ℕ) (r : Result Content AssembleFault) → IsOutcome r (assembled text) →
    IfErr r (λ e. HasFault text e)
outcome_fault text (Ok image) h = tt
outcome_fault text (Err ends.Memory) h = tt
outcome_fault text (Err (ends.Listing f)) h = subst (Says text) h (says text)

-- ---- one of the two

either_of : (text : List ℕ) (r : Result Content ListingFault) → Says text r →
    ((image : Content) × Stands text image) ⊎ ((f : ListingFault) × FirstFault text f)
either_of text (Ok q) h = inl (q, h)
either_of text (Err f) h = inr (f, h)

pub one_holds : (text : List ℕ) → ((image : Content) × Stands text image) ⊎
    ((f : ListingFault) × FirstFault text f)
one_holds text = either_of text (assembled text) (says text)

ok_is : (r : Result Content ListingFault) (s t : Content) → r ≡ Ok s → r ≡ Ok t → s ≡ t
ok_is r s t e f = cc

ok_or_err : (r : Result Content ListingFault) (s : Content) (f : ListingFault) → r ≡ Ok s → r ≡ Err f → ⊥
ok_or_err r s f e g = cc

err_is : (r : Result Content ListingFault) (e f : ListingFault) → r ≡ Err e → r ≡ Err f → e ≡ f
err_is r e f g h = cc

pub both_fail : (text : List ℕ) (image : Content) (f : ListingFault) → Stands text image → FirstFault text f →
    ⊥
both_fail text image f h g = ok_or_err (assembled text) image f (stands_is text image h) (fault_is text f g)

pub same_image : (text : List ℕ) (s t : Content) → Stands text s → Stands text t → s ≡ t
same_image text s t h g = ok_is (assembled text) s t (stands_is text s h) (stands_is text t g)

pub same_fault : (text : List ℕ) (e f : ListingFault) → FirstFault text e → FirstFault text f → e ≡ f
same_fault text e f h g = err_is (assembled text) e f (fault_is text e h) (fault_is text f g)

-- Both readings one after the other are the whole, with each as the code has it.
pub lines_stand : (lines : List (List ℕ)) (start p : Plan) (r m : Machine) (image : Content) →
    length lines ≤ most_lines → start ≡ blank → first_over 1 lines start ≡ Ok p →
    r ≡ ready p → second_over (known_in p) p.tasks r ≡ Ok m → (p.cpus == 0) ≡ false →
    image ≡ image_of p.begins m → over_lines lines ≡ Ok image
lines_stand lines start p r m image few s f e g c i =
    ap (λ b. if b then Err (fault_at 0 TooManyLines) else first_over 1 lines blank >>= after_first)
    (le-ltb _ _ few)
    ∙ (ap (λ q. first_over 1 lines q >>= after_first) (sym s)
    ∙ (ap (λ x. x >>= after_first) f
    ∙ (ap (λ q. second_over (known_in p) p.tasks q >>= finished p) (sym e)
    ∙ (ap (λ x. x >>= finished p) g
    ∙ (ap (λ b. if b then Err (fault_at 0 NoCpu) else Ok (image_of p.begins m)) c ∙ ap Ok (sym i))))))
