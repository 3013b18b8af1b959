-- A definition may go to another thread, and be seen by several, since each of its parts may.
use denote.Param.Send.{IsSend, IsSync, sendable}
use denote.Param.SendFields.{declared_send, declared_sync}
use Rattle.std.proofs.Crossing.{crosses}
use Rattle.std.proofs.MapsCrossing as maps
use Rattle.task_types.specs.contracts.objects.Object as objects
use Rattle.task_types.specs.contracts.objects.Tags as tags
use Rattle.task_types.specs.contracts.task_def.TaskDef.{the_row, the_type}

pub def_send : IsSend objects.the_row → IsSend tags.the_row → IsSend the_row
def_send object_send tags_send = declared_send the_type (
  search (crosses, maps.crosses, sendable) depth 30,
  (
    search (crosses, maps.crosses, sendable) depth 30,
    (
      search (crosses, maps.crosses, sendable) depth 30,
      (
        search (crosses, maps.crosses, sendable) depth 30,
        (
          object_send,
          (
            search (crosses, maps.crosses, sendable) depth 30,
            (
              object_send,
              (
                search (crosses, maps.crosses, sendable) depth 30,
                (
                  search (crosses, maps.crosses, sendable) depth 30,
                  (
                    search (crosses, maps.crosses, sendable) depth 30,
                    (
                      search (crosses, maps.crosses, sendable) depth 30,
                      (
                        search (crosses, maps.crosses, sendable) depth 30,
                        (
                          search (crosses, maps.crosses, sendable) depth 30,
                          (
                            search (crosses, maps.crosses, sendable) depth 30,
                            (
                              search (crosses, maps.crosses, sendable) depth 30,
                              (
                                tags_send,
                                (search (crosses, maps.crosses, sendable) depth 30, tt),
                              ),
                            ),
                          ),
                        ),
                      ),
                    ),
                  ),
                ),
              ),
            ),
          ),
        ),
      ),
    ),
  ),
)

pub def_sync : IsSync objects.the_row → IsSync tags.the_row → IsSync the_row
def_sync object_sync tags_sync = declared_sync the_type (
  search (crosses, maps.crosses, sendable) depth 30,
  (
    search (crosses, maps.crosses, sendable) depth 30,
    (
      search (crosses, maps.crosses, sendable) depth 30,
      (
        search (crosses, maps.crosses, sendable) depth 30,
        (
          object_sync,
          (
            search (crosses, maps.crosses, sendable) depth 30,
            (
              object_sync,
              (
                search (crosses, maps.crosses, sendable) depth 30,
                (
                  search (crosses, maps.crosses, sendable) depth 30,
                  (
                    search (crosses, maps.crosses, sendable) depth 30,
                    (
                      search (crosses, maps.crosses, sendable) depth 30,
                      (
                        search (crosses, maps.crosses, sendable) depth 30,
                        (
                          search (crosses, maps.crosses, sendable) depth 30,
                          (
                            search (crosses, maps.crosses, sendable) depth 30,
                            (
                              search (crosses, maps.crosses, sendable) depth 30,
                              (
                                tags_sync,
                                (search (crosses, maps.crosses, sendable) depth 30, tt),
                              ),
                            ),
                          ),
                        ),
                      ),
                    ),
                  ),
                ),
              ),
            ),
          ),
        ),
      ),
    ),
  ),
)
