-- What lets several threads join. What is proved here stands beside the definitions since an
-- executor cites it.
use base.Fml.{Share, Fml, ftrue, ffalse, feq, flt, fsep, fand, for, fwand, fex, fall, fupd, fhide, fat, froom, fleft, fdies, flft, fdead, fobs, fauth, fres, fown, fbor, fobor, flent, fshr_bor, finv, fnamed, ftok, fkid, fme, fsent}
use base.Shift.{Keyless}
use denote.RattleType.{RattleType}
use denote.Param.Send.{SyncAt}

-- A `&` to any value of the type says the same to every thread. It is `IsSync` of the type, written
-- as what its parts are: so it is one and the same where a type stands for another's parameter.
abbrev pub IsSyncAtEach : RattleType → Type 0
IsSyncAtEach R = (x : R.Denot) → SyncAt R x

-- There is one proof of it at most.
pub keyless-once : (P : Fml) → IsProp (Keyless P)
keyless-once ftrue = hlevel
keyless-once ffalse = hlevel
keyless-once (feq d x y) = hlevel
keyless-once (flt m n) = hlevel
keyless-once (fsep P Q) = hlevel (keyless-once P, keyless-once Q)
keyless-once (fand P Q) = hlevel (keyless-once P, keyless-once Q)
keyless-once (for P Q) = hlevel (keyless-once P, keyless-once Q)
keyless-once (fwand P Q) = hlevel (keyless-once P, keyless-once Q)
keyless-once (fex X F) = hlevel (λ (x : X). keyless-once (F x))
keyless-once (fall X F) = hlevel (λ (x : X). keyless-once (F x))
keyless-once (fupd P) = keyless-once P
keyless-once (fhide P) = keyless-once P
keyless-once (fat q τ b o v) = hlevel
keyless-once (froom τ b o) = hlevel
keyless-once (fleft q ω τs b o) = hlevel
keyless-once (fdies τ b) = hlevel
keyless-once (flft κ q) = hlevel
keyless-once (fdead κ) = hlevel
keyless-once (fobs γ x) = hlevel
keyless-once (fauth γ x) = hlevel
keyless-once (fres γ x) = hlevel
keyless-once (fown R γ x) = hlevel
keyless-once (fbor κ P) = keyless-once P
keyless-once (fobor κ q P) = keyless-once P
keyless-once (flent κ P) = keyless-once P
keyless-once (fshr_bor κ Φ) = hlevel (λ (q : Share). keyless-once (Φ q))
keyless-once (finv P) = keyless-once P
keyless-once (fnamed nm P) = keyless-once P
keyless-once (ftok E) = hlevel
keyless-once (fkid h a) = hlevel
keyless-once (fme h) = hlevel
keyless-once (fsent h) = hlevel
