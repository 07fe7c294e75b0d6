-- Acts with their answers.
use Rattle.std.specs.Prelude.{List, map}
use Rattle.sv_events.specs.Answer.{PlainAnswer, plain_answer}
use Rattle.sv_events.specs.declared.event.Act.{Act}
use Rattle.apl_session.specs.declared.receipts.Receipt.{Receipt}

-- an act that a session asked, and the answer that it was given
pub record PlainReceipt : Type 0 where
  pub act : Act
  pub answer : PlainAnswer

-- a receipt, whatever room its answer has
abbrev pub plain_receipt : Receipt → PlainReceipt
plain_receipt receipt = record { act = receipt.act; answer = plain_answer receipt.answer }

-- the acts of receipts
abbrev pub acts_in : List PlainReceipt → List Act
acts_in receipts = map (λ receipt. receipt.act) receipts

-- the answers in receipts
abbrev pub answers_in : List PlainReceipt → List PlainAnswer
answers_in receipts = map (λ receipt. receipt.answer) receipts
