-- Schema texts, and their columns or their first fault.
use Rattle.std.proofs.Common.{◌≡◌, codes, refl, Err}
use Rattle.semantics.specs.Columns.{schema_of}
use Rattle.semantics.specs.declared.schema_fault.SchemaFault.TheVariants.{Empty, BadName, UnknownType, RepeatedName, TooManyColumns}

no_columns : schema_of (codes "") ≡ Err Empty
no_columns = refl

digit_first : schema_of (codes "1a:int") ≡ Err (BadName 1)
digit_first = refl

no_type : schema_of (codes "a:int,b") ≡ Err (UnknownType 2)
no_type = refl

repeated_name : schema_of (codes "a:int,a:text") ≡ Err (RepeatedName 2)
repeated_name = refl

second_colon : schema_of (codes "a:int:x") ≡ Err (UnknownType 1)
second_colon = refl

empty_part : schema_of (codes "a:int,") ≡ Err (BadName 2)
empty_part = refl

space_before_name : schema_of (codes "a:int, b:int") ≡ Err (BadName 2)
space_before_name = refl

too_many_columns : schema_of
    (codes "c0:int,c1:int,c2:int,c3:int,c4:int,c5:int,c6:int,c7:int,c8:int,c9:int,c10:int,c11:int,c12:int,c13:int,c14:int,c15:int,c16:int,c17:int,c18:int,c19:int,c20:int,c21:int,c22:int,c23:int,c24:int,c25:int,c26:int,c27:int,c28:int,c29:int,c30:int,c31:int,9x") ≡ Err TooManyColumns
too_many_columns = refl
