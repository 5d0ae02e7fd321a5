-- Changes one by one.
use Rattle.std.proofs.Common.{◌≡◌, ℕ, zero, suc, ◌+◌, ◌<◌, ◌≤◌, List, [], ◌∷◌, ◌++◌, length, take, drop, get_or}
use Rattle.std.proofs.Common.{refl, sym, ap, subst, ◌∙◌, arith, append_assoc, append-nil}
use Rattle.std.specs.Prelude.{slice_set}
use Rattle.std.proofs.lemmas.List.{set-get_or, take_all, take_more}
use Rattle.step_changes.specs.Changes.{redo, undo, Leads, Adds}
use Rattle.step_changes.specs.declared.changes.Change.{Change}

-- a place that is written twice has what was written last
pub set_twice : {A : Type 0} (table : List A) (at : ℕ) (a b : A)
    → slice_set (slice_set table at a) at b ≡ slice_set table at b
set_twice [] at a b = refl
set_twice (x ∷ rest) zero a b = refl
set_twice (x ∷ rest) (suc at) a b = ap (λ l. x ∷ l) (set_twice rest at a b)

-- a place that is not there is not written
pub set_past : {A : Type 0} (table : List A) (at : ℕ) (a : A) → length table ≤ at → slice_set table at a ≡ table
set_past [] at a past = refl
set_past (x ∷ rest) zero a past = absurd (omega arith)
set_past (x ∷ rest) (suc at) a past = ap (λ l. x ∷ l) (set_past rest at a (omega arith))

-- a place that gets the value that it has stays as it is
pub set_same : {A : Type 0} (table : List A) (at : ℕ) (a d : A) → at < length table → get_or table at d ≡ a
    → slice_set table at a ≡ table
set_same table at a d low is = ap (slice_set table at) (sym is) ∙ set-get_or table at d

-- ---- changes one after the other

module _ {A B : Type 0} (put : List A → ℕ → B → List A) where
  -- those of two parts are made in order, and taken back the other way round
  pub redo_both : (xs ys : List (Change B)) (table : List A)
      → redo put (xs ++ ys) table ≡ redo put ys (redo put xs table)
  unfolding redo
  redo_both [] ys table = refl
  redo_both (c ∷ rest) ys table = redo_both rest ys (put table c.at c.new)

  pub undo_both : (xs ys : List (Change B)) (table : List A)
      → undo put (xs ++ ys) table ≡ undo put xs (undo put ys table)
  unfolding undo
  undo_both [] ys table = refl
  undo_both (c ∷ rest) ys table = ap (λ l. put l c.at c.old) (undo_both rest ys table)

  -- no change leads nowhere
  pub leads_nowhere : (from : List A) → Leads put from [] from
  unfolding redo undo
  leads_nowhere from = record { forward = refl; back = refl }

  -- one change leads to what is put, where the old value leads back
  pub leads_one : (c : Change B) (from to : List A) → put from c.at c.new ≡ to → put to c.at c.old ≡ from
      → Leads put from (c ∷ []) to
  unfolding redo undo
  leads_one c from to there again = record { forward = there; back = again }

  -- changes lead on from where others have led
  pub leads_on : (from mid to : List A) (xs ys : List (Change B)) → Leads put from xs mid → Leads put mid ys to
      → Leads put from (xs ++ ys) to
  leads_on from mid to xs ys first second = record {
    forward = redo_both xs ys from ∙ ap (redo put ys) first.forward ∙ second.forward;
    back = undo_both xs ys to ∙ ap (undo put xs) second.back ∙ first.back;
  }

  -- ---- added behind others

  pub adds_nothing : (before after : List (Change B)) (from to : List A) → after ≡ before → to ≡ from
      → Adds put before after from to
  adds_nothing before after from to is same = record {
    more = [];
    is = is ∙ sym (append-nil before);
    leads = subst (λ t. Leads put from [] t) (sym same) (leads_nowhere from);
  }

  pub adds_one : (before after : List (Change B)) (c : Change B) (from to : List A) → after ≡ before ++ c ∷ []
      → put from c.at c.new ≡ to → put to c.at c.old ≡ from → Adds put before after from to
  adds_one before after c from to is there again = record {
    more = c ∷ [];
    is = is;
    leads = leads_one c from to there again;
  }

  pub adds_on : (before mid after : List (Change B)) (from middle to : List A) → Adds put before mid from middle
      → Adds put mid after middle to → Adds put before after from to
  adds_on before mid after from middle to first second = record {
    more = first.more ++ second.more;
    is =
        second.is ∙ ap (λ l. l ++ second.more) first.is ∙ append_assoc before first.more second.more;
    leads = leads_on from middle to first.more second.more first.leads second.leads;
  }

  -- behind nothing
  pub all_added : (before after : List (Change B)) (from to : List A) → before ≡ [] → Adds put before after from to
      → Leads put from after to
  all_added before after from to none adds =
      subst (λ l. Leads put from l to) (sym (adds.is ∙ ap (λ l. l ++ adds.more) none)) adds.leads

  -- ---- the changes from a place on, and the first of them

  redo_from : (changes : List (Change B)) (i : ℕ) (d : Change B) (table : List A) → i < length changes
      → redo put (drop i changes) table
      ≡ redo put (drop (i + 1) changes) (put table (get_or changes i d).at (get_or changes i d).new)
  unfolding redo
  redo_from [] i d table within = absurd (omega arith)
  redo_from (c ∷ rest) zero d table within = refl
  redo_from (c ∷ rest) (suc i) d table within =
      let next : suc (i + 1) ≡ suc i + 1 = omega arith in
      redo_from rest i d table (omega arith)
      ∙ ap (λ k. redo put (drop k (c ∷ rest)) (put table (get_or rest i d).at (get_or rest i d).new)) next

  pub redo_at : (changes : List (Change B)) (i : ℕ) (d : Change B) (table after : List A) → i < length changes
      → after ≡ put table (get_or changes i d).at (get_or changes i d).new
      → redo put (drop (i + 1) changes) after ≡ redo put (drop i changes) table
  redo_at changes i d table after within made =
      ap (redo put (drop (i + 1) changes)) made ∙ sym (redo_from changes i d table within)

  pub redo_step : (changes : List (Change B)) (i : ℕ) (c : Change B) (table after : List A) → i < length changes
      → c ≡ get_or changes i c → after ≡ put table c.at c.new
      → redo put (drop (i + 1) changes) after ≡ redo put (drop i changes) table
  redo_step changes i c table after within is made =
      ap (redo put (drop (i + 1) changes)) (made ∙ ap (λ (d : Change B). put table d.at d.new) is)
      ∙ sym (redo_from changes i c table within)

  pub redo_none : (changes : List (Change B)) (i : ℕ) (table : List A) → length changes ≤ i
      → redo put (drop i changes) table ≡ table
  unfolding redo
  redo_none [] zero table all = refl
  redo_none [] (suc i) table all = refl
  redo_none (c ∷ rest) zero table all = absurd (omega arith)
  redo_none (c ∷ rest) (suc i) table all = redo_none rest i table (omega arith)

  -- ---- the changes before a place, and the last of them

  undo_more : (changes : List (Change B)) (c : Change B) (table : List A)
      → undo put (changes ++ c ∷ []) table ≡ undo put changes (put table c.at c.old)
  unfolding undo
  undo_more changes c table = undo_both changes (c ∷ []) table

  undo_to : (changes : List (Change B)) (i n : ℕ) (d : Change B) (table after : List A)
      → i < length changes → n ≡ i + 1
      → after ≡ put table (get_or changes i d).at (get_or changes i d).old
      → undo put (take i changes) after ≡ undo put (take n changes) table
  undo_to changes i n d table after within next made =
      ap (undo put (take i changes)) made
      ∙ sym (ap (λ k. undo put (take k changes) table) next
      ∙ ap (λ l. undo put l table) (take_more changes i d within)
      ∙ undo_more (take i changes) (get_or changes i d) table)

  pub undo_at : (changes : List (Change B)) (i k n : ℕ) (d : Change B) (table after : List A)
      → i < length changes → n ≡ i + 1 → k ≡ i
      → after ≡ put table (get_or changes k d).at (get_or changes k d).old
      → undo put (take i changes) after ≡ undo put (take n changes) table
  undo_at changes i k n d table after within next same made =
      undo_to changes i n d table after within next
      (made ∙ ap (λ j. put table (get_or changes j d).at (get_or changes j d).old) same)

  pub undo_step : (changes : List (Change B)) (i k n : ℕ) (c : Change B) (table after : List A)
      → i < length changes → n ≡ i + 1 → k ≡ i → c ≡ get_or changes k c → after ≡ put table c.at c.old
      → undo put (take i changes) after ≡ undo put (take n changes) table
  undo_step changes i k n c table after within next same is made =
      undo_at changes i k n c table after within next same
      (made ∙ ap (λ (d : Change B). put table d.at d.old) is)

  pub undo_none : (changes : List (Change B)) (n : ℕ) (table : List A) → n ≡ 0
      → undo put (take n changes) table ≡ table
  unfolding undo
  undo_none changes zero table none = refl
  undo_none changes (suc n) table none = absurd (omega arith)

  pub undo_all : (changes : List (Change B)) (n : ℕ) (table : List A) → n ≡ length changes
      → undo put (take n changes) table ≡ undo put changes table
  undo_all changes n table all = ap (λ l. undo put l table) (take_all n changes (omega arith))

-- changes behind none lead there
pub leads_all : {A B : Type 0} (put : List A → ℕ → B → List A) (none changes : List (Change B)) (from to : List A)
    → none ≡ [] → Adds put none changes from to → Leads put from changes to
leads_all put none changes from to empty adds =
    subst (λ l. Leads put from l to) (sym (adds.is ∙ ap (λ l. l ++ adds.more) empty)) adds.leads
