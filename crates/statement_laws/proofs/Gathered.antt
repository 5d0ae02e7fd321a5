-- What the lines that are read again gather in the machine, one after the other.
use Rattle.std.proofs.Common.{◌≡◌, ℕ, List, [], ◌∷◌, ◌++◌, Ok, refl, sym, ap, ◌∙◌}
use Rattle.std.proofs.Common.{append_assoc, append-nil}
use Rattle.std.specs.List.{flat_map}
use Rattle.std.proofs.lemmas.Grind.{flat_map-append}
use Rattle.z_reading.specs.Listing.{Plan, Task}
use Rattle.z_setup.specs.Machine.{Machine, Known, task_gives}
use Rattle.statement_laws.specs.Statements.{Statement, last_or}
use Rattle.z_assemble.specs.Whole.{Second}
use Rattle.statement_laws.proofs.Acted.{Acts, Walk}
use Rattle.statement_laws.proofs.Tasks.{tasks_of}

-- ---- from what is read again to the statements

pub linked : {X : Type 0} (f : Task → List X) (g : Statement → List X) →
    ((s : Statement) (p r : Plan) → Acts s p r → flat_map f (tasks_of s) ≡ g s) →
    (ss : List Statement) (p q : Plan) → Walk ss p q → flat_map f (flat_map tasks_of ss) ≡ flat_map g ss
linked f g same [] p q w = refl
linked f g same (s ∷ ss) p q w =
    flat_map-append f (tasks_of s) (flat_map tasks_of ss)
    ∙ ap (λ x. x ++ flat_map f (flat_map tasks_of ss)) (same s p w.0 w.1)
    ∙ ap (λ x. g s ++ x) (linked f g same ss w.0 q w.2)

-- ---- the last of a list

pub last_append : (d : ℕ) (xs ys : List ℕ) → last_or d (xs ++ ys) ≡ last_or (last_or d xs) ys
last_append d [] ys = refl
last_append d (x ∷ xs) ys = last_append x xs ys

-- ---- a part of the machine to which each line joins what it gives

-- nothing joined changes nothing, and what is joined may come in two pieces
pub record IsJoin {A X : Type 0} (join : A → List X → A) : Type 0 where
  pub none : (a : A) → join a [] ≡ a
  pub pieces : (a : A) (xs ys : List X) → join a (xs ++ ys) ≡ join (join a xs) ys

module _ {A X : Type 0} (part : Machine → A) (join : A → List X → A) (f : Known → Task → List X)
    (IsFine : Machine → Type 0) where
  -- as long as something holds of the machine, which each line keeps
  pub record Joins (new : List X) (m n : Machine) : Type 0 where
    pub fine : IsFine n
    pub value : part n ≡ join (part m) new

  abbrev pub EachJoins : Known → Type 0
  EachJoins k = (t : Task) (m n : Machine) → IsFine m → task_gives k t m ≡ Ok n → Joins (f k t) m n

  all_joined : (k : Known) → IsJoin join → EachJoins k → (ts : List Task) (m q : Machine) → IsFine m →
      Second k ts m q → part q ≡ join (part m) (flat_map (f k) ts)
  all_joined k j each [] m q fine h = sym (ap part h) ∙ sym (j.none (part m))
  all_joined k j each (t ∷ ts) m q fine h =
      let v = each t m h.0 fine h.1 in
      all_joined k j each ts h.0 q v.fine h.2
      ∙ ap (λ a. join a (flat_map (f k) ts)) v.value
      ∙ sym (j.pieces (part m) (f k t) (flat_map (f k) ts))

  -- in the end the part has joined what the statements give
  pub gathered : (k : Known) → IsJoin join → EachJoins k → (g : Statement → List X) →
      ((s : Statement) (p r : Plan) → Acts s p r → flat_map (f k) (tasks_of s) ≡ g s) →
      (ss : List Statement) (p q : Plan) (ts : List Task) (m n : Machine) → Walk ss p q →
      ts ≡ flat_map tasks_of ss → Second k ts m n → IsFine m → part n ≡ join (part m) (flat_map g ss)
  gathered k j each g same ss p q ts m n w e h fine =
      all_joined k j each ts m n fine h
      ∙ ap (λ x. join (part m) (flat_map (f k) x)) e
      ∙ ap (join (part m)) (linked (f k) g same ss p q w)

-- ---- lists that grow, and the last of values

pub list_join : {X : Type 0} → IsJoin {A = List X} (λ xs ys. xs ++ ys)
list_join = record { none = append-nil; pieces = λ a xs ys. sym (append_assoc a xs ys) }

pub last_join : IsJoin last_or
last_join = record { none = λ d. refl; pieces = last_append }
