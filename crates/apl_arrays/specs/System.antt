use Rattle.std.specs.Prelude.{ℕ, List, [], ◌∷◌, codes}
use Rattle.apl_arrays.specs.Glyph.{quad}
use Rattle.apl_arrays.specs.declared.system.SystemName.{SystemName}
use Rattle.apl_arrays.specs.declared.system.SystemName.TheVariants.{Svo, Svc, Svr, Svq, Svs}

-- all names of system functions
abbrev pub system_names : List SystemName
system_names = Svo ∷ Svc ∷ Svr ∷ Svq ∷ Svs ∷ []

-- how such a name is written
abbrev pub system_text : SystemName → List ℕ
system_text Svo = quad ∷ codes "SVO"
system_text Svc = quad ∷ codes "SVC"
system_text Svr = quad ∷ codes "SVR"
system_text Svq = quad ∷ codes "SVQ"
system_text Svs = quad ∷ codes "SVS"
