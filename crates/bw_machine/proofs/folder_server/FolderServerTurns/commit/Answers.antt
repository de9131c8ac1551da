use Rattle.bw_machine.proofs.folder_server.FolderServerTurns.commit.Goals as goal

pub returns-clause-answered : goal.returns-clause-answered
returns-clause-answered c = λ first frame replies t. c.commit_over.ensures.answered first.server frame replies t
