-- `ucp_messages::write_message` meets its contract, kind by kind: a kind that is found and its call, then what it leaves. Assumes
-- nothing.
use Rattle.ucp_messages.specs.Messages.{message_fits, message_body}
use Rattle.ucp_messages.proofs.write_message.Goals as goal

pub returns-in-Heartbeat : goal.returns-in-Heartbeat
unfolding message_fits message_body
returns-in-Heartbeat c = rw c.in-Heartbeat.is c.write.ensures

pub returns-in-Uplink : goal.returns-in-Uplink
unfolding message_fits Rattle.ucp_messages.specs.Uplink7.uplink_fits message_body
returns-in-Uplink c = rw c.in-Uplink.is c.write-in-Uplink.ensures

pub returns-in-Ownship : goal.returns-in-Ownship
unfolding message_fits message_body
returns-in-Ownship c = rw c.in-Ownship.is c.write-in-Ownship.ensures

pub returns-in-GeometricAltitude : goal.returns-in-GeometricAltitude
unfolding message_fits message_body
returns-in-GeometricAltitude c = rw c.in-GeometricAltitude.is c.write-in-GeometricAltitude.ensures

pub returns-in-Traffic : goal.returns-in-Traffic
unfolding message_fits message_body
returns-in-Traffic c = rw c.in-Traffic.is c.write-in-Traffic.ensures

pub returns-in-Request : goal.returns-in-Request
unfolding message_fits message_body
returns-in-Request c = rw c.in-Request.is c.write-in-Request.ensures

pub returns-in-Control : goal.returns-in-Control
unfolding message_fits message_body
returns-in-Control c = rw c.in-Control.is c.write-in-Control.ensures

pub returns-in-Initialization : goal.returns-in-Initialization
unfolding message_fits message_body
returns-in-Initialization c = rw c.in-Initialization.is c.write-in-Initialization.ensures
