-- How the program ends, by what it did.
use Rattle.std.proofs.Common.{◌≡◌, ◌≢◌, ◌⊎◌, ℕ, Bool, true, false, List, Option, Some, None, Result, Ok, Err, inl, inr, refl, subst, sym}
use Rattle.std.specs.Borrow.{Bor}
use Rattle.std.specs.Fn.{CalledAt, Mut}
use Rattle.std.specs.Io.KnownBytes.{Appends, Keeps}
use Rattle.std.specs.Prelude.{IsOk, OnOk, slice_get}
use Rattle.semantics.specs.Columns.{Field, schema_of}
use Rattle.semantics.specs.Explanation.{IsAnswerable, explanation}
use Rattle.semantics.specs.Faults.{query_faults}
use Rattle.semantics.specs.Reading.{Derives}
use Rattle.semantics.specs.Serving.{EndsByRun, EndsBySettings, EndsByText, IsRefused}
use Rattle.semantics.specs.Syntax.{Query}
use Rattle.semantics.specs.declared.ending.Ending.{Ending}
use Rattle.semantics.specs.declared.ending.Ending.TheVariants as ending
use Rattle.semantics.specs.declared.query_fault.QueryFault.{QueryFault}
use Rattle.semantics.specs.declared.query_fault.QueryFault.TheVariants as faults

-- Either memory ran out, or this is another fault.
pub memory-or-other : (fault : QueryFault) → (fault ≡ faults.OutOfMemory) ⊎ (fault ≢ faults.OutOfMemory)
memory-or-other (faults.NoToken n) = inr (λ e. let wrong = e in absurd cc)
memory-or-other (faults.Unexpected n) = inr (λ e. let wrong = e in absurd cc)
memory-or-other (faults.UnknownColumn n) = inr (λ e. let wrong = e in absurd cc)
memory-or-other faults.TypesDisagree = inr (λ e. let wrong = e in absurd cc)
memory-or-other (faults.NotGrouped n) = inr (λ e. let wrong = e in absurd cc)
memory-or-other faults.OverLimit = inr (λ e. let wrong = e in absurd cc)
memory-or-other faults.FunctionNotAllowed = inr (λ e. let wrong = e in absurd cc)
memory-or-other (faults.RepeatedHeader n) = inr (λ e. let wrong = e in absurd cc)
memory-or-other faults.OutOfMemory = inl refl

-- A query that its text derives is refused under good columns by the first of its faults, unless
-- memory ran out.
pub refused-under : (columns query : List ℕ) (fields : List Field) (form : Query) (fault : QueryFault)
    → schema_of columns ≡ Ok fields → Derives query form → (fault ≢ faults.OutOfMemory → slice_get (query_faults fields form) 0 ≡ Some fault)
    → IsRefused columns query (Err (ending.Query fault))
refused-under columns query fields form fault schema derived first = by (memory-or-other fault) where
  by : (fault ≡ faults.OutOfMemory) ⊎ (fault ≢ faults.OutOfMemory) → IsRefused columns query (Err (ending.Query fault))
  by (inl memory) = inl memory
  by (inr other) = inr record { fields = fields; schema = schema; told = inr (form, derived, first other) }

module _ {F R : Type 0} (opens : Mut F (Bor (List ℕ) × Unit {0}) (Option R)) (before after : F) (remaining : R → Option (List ℕ))
    (columns query file : List ℕ) (explain join partial : Bool) (limit : Option ℕ) (end : Result ℕ Ending) (out_old out_new err_old err_new : Option (List ℕ)) where
  -- The columns or the query are refused.
  pub ends-refused : IsRefused columns query end → after ≡ before → Keeps out_old out_new → Keeps err_old err_new
      → EndsBySettings opens before after remaining columns query file explain join partial limit end out_old out_new err_old err_new
  ends-refused refused same out err = inl (refused, same, out, err)

  -- The query is explained.
  pub ends-explained : (good : IsAnswerable columns query) → explain ≡ true → EndsByText (explanation good.fields good.form) end out_old out_new → Keeps err_old err_new → after ≡ before
      → EndsBySettings opens before after remaining columns query file explain join partial limit end out_old out_new err_old err_new
  ends-explained good asks text err same =
      subst (λ e. EndsBySettings opens before after remaining columns query file e join partial limit end out_old out_new err_old err_new) (sym asks) (inr (good, (text, err, same)))

  -- The file cannot be opened.
  pub ends-unopened : (good : IsAnswerable columns query) → explain ≡ false → CalledAt opens before file None after → end ≡ Err ending.NotOpened → Keeps out_old out_new → Keeps err_old err_new
      → EndsBySettings opens before after remaining columns query file explain join partial limit end out_old out_new err_old err_new
  ends-unopened good asks called is out err =
      subst (λ e. EndsBySettings opens before after remaining columns query file e join partial limit end out_old out_new err_old err_new) (sym asks) (inr (good, inl (called, is, out, err)))

  -- What is asked for is done over what the reader of the file gives.
  pub ends-run : (good : IsAnswerable columns query) → explain ≡ false → (reader : R) → CalledAt opens before file (Some reader) after
      → EndsByRun join partial end limit good.fields good.form (remaining reader) out_old out_new err_old err_new
      → EndsBySettings opens before after remaining columns query file explain join partial limit end out_old out_new err_old err_new
  ends-run good asks reader called run =
      subst (λ e. EndsBySettings opens before after remaining columns query file e join partial limit end out_old out_new err_old err_new) (sym asks) (inr (good, inr (reader, called, run)))

-- The text is written where that is done.
pub written : (text : List ℕ) (end : Result ℕ Ending) (old new : Option (List ℕ)) → EndsByText text end old new → OnOk end (Appends old new text)
written text (Ok status) old new is = is.1
written text (Err e) old new is = tt

-- What holds where it is done holds, since it is.
pub on-done : (P : Type 0) (end : Result ℕ Ending) → OnOk end P → IsOk end → P
on-done P (Ok status) holds done = holds
on-done P (Err e) holds done = let wrong = done in absurd cc
