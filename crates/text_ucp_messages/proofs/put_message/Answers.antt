-- `text_ucp_messages::put_message` meets its contract, kind by kind; the check finds the kinds of few fields alone. Assumes nothing.
use Rattle.text_ucp_messages.specs.Messages.{message_shown}
use Rattle.text_ucp_messages.proofs.put_message.Goals as goal

pub returns-in-Ownship : goal.returns-in-Ownship
unfolding message_shown
returns-in-Ownship c = rw c.in-Ownship.is c.put_report.ensures

pub returns-in-Traffic : goal.returns-in-Traffic
unfolding message_shown
returns-in-Traffic c = rw c.in-Traffic.is c.put_report-in-Traffic.ensures

pub returns-in-Control : goal.returns-in-Control
unfolding message_shown
returns-in-Control c = rw c.in-Control.is c.put_control.ensures

pub returns-in-Initialization : goal.returns-in-Initialization
unfolding message_shown
returns-in-Initialization c = rw c.in-Initialization.is c.put_initialization.ensures
