-- Scope expressions, what they ask of a set, and what a set lacks of them (the Taskcluster reference, "Scope expressions").
use Rattle.std.specs.Prelude.{ℕ, Bool, true, false, ◌&&◌, ◌||◌, cond, List, [], ◌∷◌, ◌++◌, Option, Some, None}
use Rattle.scope_sets.specs.Scopes.{covers}
use Rattle.scope_sets.specs.declared.expressions.Expr.{Expr, fold-Expr}
use Rattle.scope_sets.specs.declared.expressions.Expr.TheOpen.{Expr-F}

mutual
  -- a scope, all of some expressions, or any of them
  pub data Expression : Type 0 where
    one : List ℕ → Expression
    all_of : Members → Expression
    any_of : Members → Expression

  pub data Members : Type 0 where
    no_members : Members
    member : Expression → Members → Members

-- a list of expressions as members
abbrev pub members_of : List Expression → Members
members_of [] = no_members
members_of (e ∷ es) = member e (members_of es)

-- one level of an `Expr`, each expression inside already seen
abbrev pub view_step : Expr-F Expression → Expression
view_step (Expr-F.One s) = one s
view_step (Expr-F.AllOf es) = all_of (members_of es.items)
view_step (Expr-F.AnyOf es) = any_of (members_of es.items)

-- the expression that an `Expr` stands for
abbrev pub view : Expr → Expression
view = fold-Expr Expression view_step

abbrev mutual
  -- a scope holds if the set covers it, `AllOf` if each member holds, `AnyOf` if one does
  pub holds : List (List ℕ) → Expression → Bool
  holds set (one s) = covers set s
  holds set (all_of es) = all_hold set es
  holds set (any_of es) = some_holds set es

  pub all_hold : List (List ℕ) → Members → Bool
  all_hold set no_members = true
  all_hold set (member e es) = holds set e && all_hold set es

  pub some_holds : List (List ℕ) → Members → Bool
  some_holds set no_members = false
  some_holds set (member e es) = holds set e || some_holds set es

abbrev mutual
  -- what is left of an expression that does not hold: a scope stays, `AllOf` keeps the members that do not hold,
  -- `AnyOf` keeps all, and each member that is kept is reduced likewise
  pub reduced : List (List ℕ) → Expression → Expression
  reduced set (one s) = one s
  reduced set (all_of es) = all_of (lacking set es)
  reduced set (any_of es) = any_of (each_reduced set es)

  pub lacking : List (List ℕ) → Members → Members
  lacking set no_members = no_members
  lacking set (member e es) = cond (holds set e) (lacking set es) (member (reduced set e) (lacking set es))

  pub each_reduced : List (List ℕ) → Members → Members
  each_reduced set no_members = no_members
  each_reduced set (member e es) = member (reduced set e) (each_reduced set es)

-- what is missing: nothing exactly where the expression holds
abbrev pub missing : List (List ℕ) → Expression → Option Expression
missing set e = cond (holds set e) None (Some (reduced set e))

abbrev mutual
  -- no `AllOf` in it is without members
  pub HasNoEmptyAllOf : Expression → Type 0
  HasNoEmptyAllOf (one s) = Unit {0}
  HasNoEmptyAllOf (all_of no_members) = ⊥
  HasNoEmptyAllOf (all_of (member e es)) = HasNoEmptyAllOf e × NoneHasEmptyAllOf es
  HasNoEmptyAllOf (any_of es) = NoneHasEmptyAllOf es

  pub NoneHasEmptyAllOf : Members → Type 0
  NoneHasEmptyAllOf no_members = Unit {0}
  NoneHasEmptyAllOf (member e es) = HasNoEmptyAllOf e × NoneHasEmptyAllOf es

abbrev mutual
  -- the scopes that stand in an expression, in order
  pub scopes_in : Expression → List (List ℕ)
  scopes_in (one s) = s ∷ []
  scopes_in (all_of es) = scopes_in_each es
  scopes_in (any_of es) = scopes_in_each es

  pub scopes_in_each : Members → List (List ℕ)
  scopes_in_each no_members = []
  scopes_in_each (member e es) = scopes_in e ++ scopes_in_each es
