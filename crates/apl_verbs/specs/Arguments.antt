-- What a function takes: one argument or two, and an axis.
use Rattle.std.specs.Prelude.{Bool, true, false}
use Rattle.apl_verbs.specs.declared.verb.Mix1.{Mix1}
use Rattle.apl_verbs.specs.declared.verb.Mix1.TheVariants as mix1
use Rattle.apl_verbs.specs.declared.verb.Mix2.{Mix2}
use Rattle.apl_verbs.specs.declared.verb.Mix2.TheVariants as mix2
use Rattle.apl_verbs.specs.declared.verb.Verb.{Verb}
use Rattle.apl_verbs.specs.declared.verb.Verb.TheVariants as verb

-- the function has two arguments
abbrev pub is_dyadic : Verb → Bool
is_dyadic (verb.One f) = false
is_dyadic (verb.Two f) = true
is_dyadic (verb.Mixed1 f) = false
is_dyadic (verb.Mixed2 f) = true
is_dyadic (verb.Reduce f way) = false
is_dyadic (verb.Scan f way) = false
is_dyadic (verb.Inner f g) = true
is_dyadic (verb.Outer f) = true

-- an axis may stand behind monadic ⌽ ⊖
abbrev pub mix1_takes_axis : Mix1 → Bool
mix1_takes_axis (mix1.Reverse way) = true
mix1_takes_axis mix1.Shape = false
mix1_takes_axis mix1.Iota = false
mix1_takes_axis mix1.Ravel = false
mix1_takes_axis mix1.Transpose = false
mix1_takes_axis mix1.GradeUp = false
mix1_takes_axis mix1.GradeDown = false
mix1_takes_axis mix1.Format = false

-- an axis may stand behind dyadic , ⌽ ⊖ / ⌿ \ ⍀
abbrev pub mix2_takes_axis : Mix2 → Bool
mix2_takes_axis mix2.Catenate = true
mix2_takes_axis (mix2.Rotate way) = true
mix2_takes_axis (mix2.Compress way) = true
mix2_takes_axis (mix2.Expand way) = true
mix2_takes_axis mix2.Reshape = false
mix2_takes_axis mix2.Take = false
mix2_takes_axis mix2.Drop = false
mix2_takes_axis mix2.TransposeBy = false
mix2_takes_axis mix2.IndexOf = false
mix2_takes_axis mix2.Member = false
mix2_takes_axis mix2.Encode = false
mix2_takes_axis mix2.Decode = false

-- an axis may stand behind the function
abbrev pub verb_takes_axis : Verb → Bool
verb_takes_axis (verb.One f) = false
verb_takes_axis (verb.Two f) = false
verb_takes_axis (verb.Mixed1 f) = mix1_takes_axis f
verb_takes_axis (verb.Mixed2 f) = mix2_takes_axis f
verb_takes_axis (verb.Reduce f way) = true
verb_takes_axis (verb.Scan f way) = true
verb_takes_axis (verb.Inner f g) = false
verb_takes_axis (verb.Outer f) = false
