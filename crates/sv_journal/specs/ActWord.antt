-- The words of acts, and the answers that an entry of each may have.
use Rattle.std.specs.Prelude.{ℕ, List, [], ◌∷◌, codes}
use Rattle.sv_events.specs.declared.event.Act.{Act}
use Rattle.sv_events.specs.declared.event.Act.TheVariants as act
use Rattle.sv_events.specs.declared.row.AnswerKind.{AnswerKind}
use Rattle.sv_events.specs.declared.row.AnswerKind.TheVariants as answer
use Rattle.sv_journal.specs.declared.act_word.ActWord.{ActWord}
use Rattle.sv_journal.specs.declared.act_word.ActWord.TheVariants.{Offer, Retract, SetControl, AskControl, AskState, AskDegree, AskParties, AskNames, Set, Use, Leave}

-- all acts' words
abbrev pub act_words : List ActWord
act_words =
    Offer ∷ Retract ∷ SetControl ∷ AskControl ∷ AskState ∷ AskDegree ∷ AskParties ∷ AskNames ∷ Set ∷ Use ∷ Leave ∷ []

-- how each is written
abbrev pub act_word : ActWord → List ℕ
act_word Offer = codes "offer"
act_word Retract = codes "retract"
act_word SetControl = codes "control"
act_word AskControl = codes "askcontrol"
act_word AskState = codes "askstate"
act_word AskDegree = codes "askdegree"
act_word AskParties = codes "askparties"
act_word AskNames = codes "asknames"
act_word Set = codes "set"
act_word Use = codes "use"
act_word Leave = codes "leave"

-- an act's word
abbrev pub word_of_act : Act → ActWord
word_of_act (act.Offer to local surrogate handed) = Offer
word_of_act (act.Retract local) = Retract
word_of_act (act.SetControl local control) = SetControl
word_of_act (act.AskControl local) = AskControl
word_of_act (act.AskState local) = AskState
word_of_act (act.AskDegree local) = AskDegree
word_of_act act.AskParties = AskParties
word_of_act (act.AskNames party) = AskNames
word_of_act (act.Set local new) = Set
word_of_act (act.Use local) = Use
word_of_act act.Leave = Leave

-- the answers that an entry of such an act may have
abbrev pub answers_to : ActWord → List AnswerKind
answers_to Offer = answer.Degree ∷ answer.OfferLimit ∷ []
answers_to Retract = answer.Kept ∷ answer.NotShared ∷ []
answers_to SetControl = answer.Vector ∷ answer.NotShared ∷ []
answers_to AskControl = answer.Vector ∷ []
answers_to AskState = answer.Vector ∷ []
answers_to AskDegree = answer.Degree ∷ []
answers_to AskParties = answer.Parties ∷ []
answers_to AskNames = answer.Names ∷ []
answers_to Set = answer.Granted ∷ answer.Held ∷ answer.Abandoned ∷ answer.NotShared ∷ []
answers_to Use = answer.Value ∷ answer.NoValue ∷ answer.Held ∷ answer.Abandoned ∷ answer.NotShared ∷ []
answers_to Leave = answer.Done ∷ []
