-- Changes of a table, made one after the other and taken back.
use Rattle.std.specs.Prelude.{◌≡◌, ℕ, List, [], ◌∷◌, ◌++◌}
use Rattle.step_changes.specs.declared.changes.Change.{Change}

-- the changes are made, the first one first: at each place the new value is put
unfoldable pub redo : {A B : Type 0} → (List A → ℕ → B → List A) → List (Change B) → List A → List A
redo put [] table = table
redo put (c ∷ rest) table = redo put rest (put table c.at c.new)

-- they are taken back, the last one first: at each place the old value is put again
unfoldable pub undo : {A B : Type 0} → (List A → ℕ → B → List A) → List (Change B) → List A → List A
undo put [] table = table
undo put (c ∷ rest) table = put (undo put rest table) c.at c.old

-- the changes lead from one table to another, and back
pub record Leads {A B : Type 0} (put : List A → ℕ → B → List A) (from : List A) (changes : List (Change B))
    (to : List A) : Type 0 where
  pub forward : redo put changes from ≡ to
  pub back : undo put changes to ≡ from

-- changes that are added behind others lead from one table to another, and back
pub record Adds {A B : Type 0} (put : List A → ℕ → B → List A) (before after : List (Change B))
    (from to : List A) : Type 0 where
  pub more : List (Change B)
  pub is : after ≡ before ++ more
  pub leads : Leads put from more to
