use Rattle.bw_program.proofs.RequestLemmas.{task_is}
use Rattle.bw_program.proofs.program.run.Goals as goal

pub returns-in-Replay : goal.returns-in-Replay
returns-in-Replay g c = task_is _ _ _ _ _ _ _ _ _ _ c.in-Replay.is c.replay_input.ensures

pub returns-in-Inspect : goal.returns-in-Inspect
returns-in-Inspect g c = task_is _ _ _ _ _ _ _ _ _ _ c.in-Inspect.is c.inspect_file.ensures

pub returns-in-InspectFiles : goal.returns-in-InspectFiles
returns-in-InspectFiles g c = task_is _ _ _ _ _ _ _ _ _ _ c.in-InspectFiles.is c.inspect_each.ensures

pub returns-in-Rehearse : goal.returns-in-Rehearse
returns-in-Rehearse g c = task_is _ _ _ _ _ _ _ _ _ _ c.in-Rehearse.is c.rehearse_input.ensures

pub returns-in-Serve : goal.returns-in-Serve
returns-in-Serve g c = task_is _ _ _ _ _ _ _ _ _ _ c.in-Serve.is c.serve_folder.ensures

pub returns-in-Send : goal.returns-in-Send
returns-in-Send g c = task_is _ _ _ _ _ _ _ _ _ _ c.in-Send.is c.send_typed.ensures

pub returns-in-SendFile : goal.returns-in-SendFile
returns-in-SendFile g c = task_is _ _ _ _ _ _ _ _ _ _ c.in-SendFile.is c.send_file_kept.ensures

pub returns-in-SendFiles : goal.returns-in-SendFiles
returns-in-SendFiles g c = task_is _ _ _ _ _ _ _ _ _ _ c.in-SendFiles.is c.send_files.ensures

pub returns-in-SendPcm : goal.returns-in-SendPcm
returns-in-SendPcm g c = task_is _ _ _ _ _ _ _ _ _ _ c.in-SendPcm.is c.send_pcm_there.ensures

pub returns-in-Pack : goal.returns-in-Pack
returns-in-Pack g c = task_is _ _ _ _ _ _ _ _ _ _ c.in-Pack.is c.pack_recording.ensures

pub returns-in-Picture : goal.returns-in-Picture
returns-in-Picture g c = task_is _ _ _ _ _ _ _ _ _ _ c.in-Picture.is c.draw_recording.ensures

pub returns-in-Repair : goal.returns-in-Repair
returns-in-Repair g c = task_is _ _ _ _ _ _ _ _ _ _ c.in-Repair.is c.repair_recording.ensures

pub returns-in-Takes : goal.returns-in-Takes
returns-in-Takes g c = task_is _ _ _ _ _ _ _ _ _ _ c.in-Takes.is c.work_on_takes.ensures

pub returns-in-Convert : goal.returns-in-Convert
returns-in-Convert g c = task_is _ _ _ _ _ _ _ _ _ _ c.in-Convert.is c.convert_recording.ensures

pub returns-in-Join : goal.returns-in-Join
returns-in-Join g c = task_is _ _ _ _ _ _ _ _ _ _ c.in-Join.is c.join_recordings.ensures

pub returns-in-Verify : goal.returns-in-Verify
returns-in-Verify g c = task_is _ _ _ _ _ _ _ _ _ _ c.in-Verify.is c.verify_folder.ensures
